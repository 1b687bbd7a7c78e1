-- What the counters of a journal say of it.
use Rattle.std.specs.Prelude.{◌≡◌, refl, ℕ, zero, suc, ◌+◌, ◌-◌, ◌<◌, ◌≤◌, ◌^◌, ◌==◌, min, Bool, true, false, not, ◌&&◌, ◌||◌, List, [], ◌∷◌, ◌++◌, length, filter, position, Option, Some, None, slice_index_or, unwrap_or, option_and_then, cond, if◌then◌else◌}
use Rattle.std.specs.List.{fold, flat_map, list_any, list_all, range_with_len}
use Rattle.std.specs.Option.{option_map}
use Rattle.std.specs.Str.{bytes_eq}
use Rattle.std.proofs.Common.{ap, ap₂, sym, ◌∙◌, subst, arith, add-one}
use Rattle.std.proofs.lemmas.List.Elements.{filter-append}
use Rattle.std.proofs.lemmas.List.Quantifiers.{position-Some}
use Rattle.sk_msg.specs.declared.entry.Entry.{Entry}
use Rattle.sk_msg.specs.declared.state.State.{State}
use Rattle.sk_msg.specs.declared.state.State.TheVariants.{Invalid}
use Rattle.sk_system.specs.System.{last_states, system_of, system_state, all_required_reached}
use Rattle.sk_system.specs.System.{all_reached as all_at}
use Rattle.sk_system.specs.View.{View, view_system, view_reached}
use Rattle.sk_system.specs.View.{known_of as known_in}
use Rattle.sk_law.specs.declared.setup.Setup.{Setup}
use Rattle.sk_law.specs.Order.{is_coordinated, untils_of, is_synchronised, has_left, announced_of, status_of}
use Rattle.sk_law.specs.Past.{Past}
use Rattle.sk_law.specs.Readings.{is_gone}
use Rattle.sk_law.specs.Links.{limit, reached, told, others_below, peers, from, said, is_here, has_tool, system, known, known_state, of_peer, required_by, taken, all_announced, has_announced}
use Rattle.sk_law.specs.Links.{all_reached}
use Rattle.sk_law.specs.Rows.{are_others_done, has_stopped}
use Rattle.sk_law.specs.declared.journal.links.Question.{Question}
use Rattle.sk_law.specs.declared.journal.links.Question.TheVariants.{Announced, Done}
use Rattle.sk_law.specs.declared.line.Line.{Line}
use Rattle.sk_law.specs.declared.tally.Tally.{Tally}
use Rattle.sk_law.specs.Tied.{Tied, all_of, no_line, taken_in, numbered, here_in}
use Rattle.sk_law.specs.Questions.{answers, all_answer, some_here}

-- ## Over numbers in a row

pub filter_ext : (f g : ℕ → Bool) (a n : ℕ) → ((p : ℕ) → a ≤ p → p < a + n → f p ≡ g p) → filter f (range_with_len a n) ≡ filter g (range_with_len a n)
filter_ext f g a zero h = refl
filter_ext f g a (suc n) h =
    ap₂ (λ (b : Bool) (xs : List ℕ). cond b (a ∷ xs) xs) (h a (omega arith) (omega arith)) (filter_ext f g (a + 1) n (λ p le lt. h p (omega arith) (omega arith)))

all_ext : (f g : ℕ → Bool) (a n : ℕ) → ((p : ℕ) → a ≤ p → p < a + n → f p ≡ g p) → list_all f (range_with_len a n) ≡ list_all g (range_with_len a n)
all_ext f g a zero h = refl
all_ext f g a (suc n) h =
    ap₂ (λ b c. b && c) (h a (omega arith) (omega arith)) (all_ext f g (a + 1) n (λ p le lt. h p (omega arith) (omega arith)))

pub any_ext : (f g : ℕ → Bool) (a n : ℕ) → ((p : ℕ) → a ≤ p → p < a + n → f p ≡ g p) → list_any f (range_with_len a n) ≡ list_any g (range_with_len a n)
any_ext f g a zero h = refl
any_ext f g a (suc n) h =
    ap₂ (λ b c. b || c) (h a (omega arith) (omega arith)) (any_ext f g (a + 1) n (λ p le lt. h p (omega arith) (omega arith)))

-- of those that don't pass a test, as of all that pass one or the other
all_but : (own f : ℕ → Bool) (xs : List ℕ) → list_all (λ p. own p || f p) xs ≡ list_all f (filter (λ p. not (own p)) xs)
all_but own f [] = refl
all_but own f (x ∷ xs) = on (own x) (all_but own f xs)
  where
    on : (b : Bool) → list_all (λ p. own p || f p) xs ≡ list_all f (filter (λ p. not (own p)) xs) →
        ((b || f x) && list_all (λ p. own p || f p) xs) ≡ list_all f (cond (not b) (x ∷ filter (λ p. not (own p)) xs) (filter (λ p. not (own p)) xs))
    on true e = e
    on false e = ap (λ b. f x && b) e

-- of those that pass a test
pub all_of_them : (test f : ℕ → Bool) (xs : List ℕ) → list_all (λ p. not (test p) || f p) xs ≡ list_all f (filter test xs)
all_of_them test f [] = refl
all_of_them test f (x ∷ xs) = on (test x) (all_of_them test f xs)
  where
    on : (b : Bool) → list_all (λ p. not (test p) || f p) xs ≡ list_all f (filter test xs) →
        ((not b || f x) && list_all (λ p. not (test p) || f p) xs) ≡ list_all f (cond b (x ∷ filter test xs) (filter test xs))
    on true e = ap (λ b. f x && b) e
    on false e = e

-- ## Who is told

range_more : (a n : ℕ) → range_with_len a (suc n) ≡ range_with_len a n ++ (a + n) ∷ []
range_more a zero = ap (λ x. x ∷ []) (omega arith)
range_more a (suc n) = ap (λ xs. a ∷ xs) (range_more (a + 1) n) ∙ ap (λ x. a ∷ (range_with_len (a + 1) n ++ x ∷ [])) (let e : a + 1 + n ≡ a + suc n = omega arith in e)

pub here_more : (lines : List Line) (own n : ℕ) (b : Bool) → b ≡ (not (n == own) && not (slice_index_or lines n no_line).gone) →
    here_in lines own (n + 1) ≡ here_in lines own n ++ (if b then n ∷ [] else [])
here_more lines own n b e =
    let test : ℕ → Bool = λ p. not (p == own) && not (slice_index_or lines p no_line).gone in
    rw add-one (ap (filter test) (range_more 0 n) ∙ filter-append test (range_with_len 0 n) ((0 + n) ∷ []) ∙ ap (λ x. filter test (range_with_len 0 n) ++ filter test (x ∷ [])) (let z : 0 + n ≡ n = omega arith in z)
    ∙ ap (λ c. filter test (range_with_len 0 n) ++ (if c then n ∷ [] else [])) (sym e))

below_is : {S : Setup} {tools : List (List ℕ)} {out : List ℕ} {es : List Entry} {tally : Tally} {lines : List Line} {view : View} {awaited : Option Bool} {count : ℕ} (n : ℕ) → n ≤ all_of S tools →
    Tied S tools out es tally lines view awaited count → here_in lines S.number n ≡ others_below S es n
below_is {S} {es = es} {lines = lines} n few h =
    filter_ext _ (λ p. not (p == S.number) && not (is_gone es p)) 0 n
    (λ p le lt. ap (λ (l : Line). not (p == S.number) && not l.gone) (h.line p (omega arith)))

pub reached_is : {S : Setup} (past : Past) {out : List ℕ} {tally : Tally} {lines : List Line} {view : View} {awaited : Option Bool} {count : ℕ} →
    Tied S past.memory.tools out past.journal tally lines view awaited count → here_in lines S.number (length S.names) ≡ reached S past
reached_is {S} past h = below_is (length S.names) (omega arith) h

pub told_is : {S : Setup} (past : Past) {out : List ℕ} {tally : Tally} {lines : List Line} {view : View} {awaited : Option Bool} {count : ℕ} →
    Tied S past.memory.tools out past.journal tally lines view awaited count → here_in lines S.number (length lines) ≡ told S past
told_is {S} past {lines = lines} h = ap (here_in lines S.number) h.all_lines ∙ below_is (all_of S past.memory.tools) (omega arith) h

-- ## What all peers have said

pub peers_answer : {S : Setup} (past : Past) {out : List ℕ} {tally : Tally} {lines : List Line} {view : View} {awaited : Option Bool} {count : ℕ} (question : Question) →
    Tied S past.memory.tools out past.journal tally lines view awaited count →
    all_answer question lines S.number (length S.names) ≡ list_all (λ p. answers question (is_gone past.journal p) (said S past p)) (peers S)
peers_answer {S} past {lines = lines} question h =
    all_ext _ (λ p. p == S.number || answers question (is_gone past.journal p) (said S past p)) 0 (length S.names)
    (λ p le lt. ap (λ (l : Line). p == S.number || answers question l.gone l.said) (h.line p (omega arith)))
    ∙ all_but (λ p. p == S.number) (λ p. answers question (is_gone past.journal p) (said S past p)) (range_with_len 0 (length S.names))

pub announced_is : (S : Setup) (past : Past) (at : ℕ) →
    list_all (λ p. answers (Announced at) (is_gone past.journal p) (said S past p)) (peers S) ≡ all_announced S past at
announced_is S past at =
    all_of_them (λ p. is_synchronised (from S past p)) (λ p. not (is_here S past p) || has_announced at (announced_of (from S past p))) (peers S)

pub done_is : (S : Setup) (past : Past) → list_all (λ p. answers Done (is_gone past.journal p) (said S past p)) (peers S) ≡ are_others_done S past
done_is S past =
    all_of_them (λ p. is_synchronised (from S past p)) (λ p. has_left (from S past p) || has_stopped (status_of (from S past p))) (peers S)

pub tools_are : {S : Setup} (past : Past) {out : List ℕ} {tally : Tally} {lines : List Line} {view : View} {awaited : Option Bool} {count : ℕ} →
    Tied S past.memory.tools out past.journal tally lines view awaited count →
    some_here lines (length S.names) (length lines - length S.names) ≡ has_tool S past
tools_are {S} past {lines = lines} h =
    ap (some_here lines (length S.names)) (let l = h.all_lines in let e : length lines - length S.names ≡ length past.memory.tools = omega arith in e)
    ∙ any_ext _ (λ t. is_here S past t) (length S.names) (length past.memory.tools)
    (λ p le lt. ap (λ (l : Line). not l.gone && not l.said.left) (h.line p (omega arith)))

-- ## The simulation

-- the last known states, by number as by name
states : (all : List (List ℕ)) (at : ℕ → Option State) (seen : List (Option State)) (names : List (List ℕ)) →
    ((p : ℕ) → p < length all → slice_index_or seen p None ≡ at p) →
    last_states (known_in seen) (numbered all names) ≡ last_states (λ name. option_and_then at (position (bytes_eq name) all)) names
states all at seen [] h = refl
states all at seen (name ∷ names) h = ap₂ (λ x xs. x ∷ xs) (on (position (bytes_eq name) all) refl) (states all at seen names h)
  where
    on : (place : Option ℕ) → position (bytes_eq name) all ≡ place → unwrap_or (known_in seen place) Invalid ≡ unwrap_or (option_and_then at place) Invalid
    on None e = refl
    on (Some p) e = ap (λ s. unwrap_or s Invalid) (h p (position-Some (bytes_eq name) all p [] e).0)

pub system_is : {S : Setup} (past : Past) {out : List ℕ} {tally : Tally} {lines : List Line} {view : View} {awaited : Option Bool} {count : ℕ} →
    Tied S past.memory.tools out past.journal tally lines view awaited count → view_system view ≡ system S past
unfolding view_system system
system_is {S} past {view = view} h =
    ap (λ r. system_state r (known_in view.known)) h.required ∙ on (required_by S (taken_in S past.memory.tools past.journal))
  where
    on : (req : Option (List (List ℕ))) → system_state (option_map (numbered S.names) req) (known_in view.known) ≡ system_state req (known S past)
    on None = refl
    on (Some names) = ap system_of (states S.names (known_state S past) view.known names h.known)

pub reached_by_all : {S : Setup} (past : Past) {out : List ℕ} {tally : Tally} {lines : List Line} {view : View} {awaited : Option Bool} {count : ℕ} (goal : State) →
    Tied S past.memory.tools out past.journal tally lines view awaited count → view_reached view goal ≡ all_required_reached (required_by S (taken S past)) (known S past) goal
unfolding view_reached
reached_by_all {S} past {view = view} goal h =
    ap (λ r. all_required_reached r (known_in view.known) goal) h.required ∙ on (required_by S (taken_in S past.memory.tools past.journal))
  where
    on : (req : Option (List (List ℕ))) → all_required_reached (option_map (numbered S.names) req) (known_in view.known) goal ≡ all_required_reached req (known S past) goal
    on None = refl
    on (Some names) = ap (all_at goal) (states S.names (known_state S past) view.known names h.known)

pub reached_where : {S : Setup} (past : Past) {out : List ℕ} {tally : Tally} {lines : List Line} {view : View} {awaited : Option Bool} {count : ℕ} (goal : State) →
    Tied S past.memory.tools out past.journal tally lines view awaited count → not S.coordinated ≡ false → view_reached view goal ≡ all_reached S past goal
unfolding all_reached
reached_where {S} past goal h e = reached_by_all past goal h ∙ ap (λ b. b || all_required_reached (required_by S (taken S past)) (known S past) goal) (sym e)

-- of a number without a line
pub past_lines : {S : Setup} {tools : List (List ℕ)} {out : List ℕ} {es : List Entry} {tally : Tally} {lines : List Line} {view : View} {awaited : Option Bool} {count : ℕ} {all : List Line} (p : ℕ) →
    Tied S tools out es tally lines view awaited count → lines ≡ all → length all ≤ p → all_of S tools ≤ p
past_lines p h same le = subst (λ n. n ≤ p) h.all_lines (subst (λ (ls : List Line). length ls ≤ p) (sym same) le)

-- ## The limit

pub limit_is : {S : Setup} (past : Past) {out : List ℕ} {tally : Tally} {lines : List Line} {view : View} {awaited : Option Bool} {count : ℕ} →
    Tied S past.memory.tools out past.journal tally lines view awaited count → count ≡ limit S past
unfolding limit
limit_is past h = h.limit_is

least : (xs : List ℕ) (d : ℕ) → d ≤ 2 ^ 61 → fold min d xs ≤ 2 ^ 61
least [] d le = le
least (x ∷ xs) d le = least xs (min d x) (omega arith)

pub limit_early : {S : Setup} {tools : List (List ℕ)} {out : List ℕ} {es : List Entry} {tally : Tally} {lines : List Line} {view : View} {awaited : Option Bool} {count : ℕ} →
    Tied S tools out es tally lines view awaited count → count ≤ 2 ^ 61
limit_early {S} {tools} {es = es} h = subst (λ n. n ≤ 2 ^ 61) (sym h.limit_is)
    (least (if S.coordinated then flat_map (λ p. if is_coordinated (of_peer p (taken_in S tools es)) then untils_of (of_peer p (taken_in S tools es)) else []) (peers S) else []) S.duration h.duration)
