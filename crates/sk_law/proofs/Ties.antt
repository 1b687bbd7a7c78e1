-- What one more entry asks of the counters.
use Rattle.std.specs.Prelude.{◌≡◌, refl, ℕ, ◌<◌, ◌≤◌, ◌^◌, ◌||◌, ◌==◌, Bool, true, false, List, [], ◌∷◌, ◌++◌, length, drop, Option, Some, None, slice_index_or, slice_set, nat_lt, IfSome, if◌then◌else◌}
use Rattle.std.specs.List.{cons_option}
use Rattle.std.specs.Option.{option_map}
use Rattle.std.proofs.Common.{ap, ap₂, sym, ◌∙◌, subst, arith, append-nil, length-append, ⊎_elim, length-set, get_or-set_same, get_or-set_other}
use Rattle.std.proofs.lemmas.Bool.{cases_eq, eqb-true, eq-eqb, ltb-true, lt-ltb}
use Rattle.std.proofs.lemmas.List.{drop-append-le}
use Rattle.std.proofs.lemmas.List.Sums.{fold-append}
use Rattle.std.proofs.lemmas.List.Elements.{filter_map-append}
use Rattle.sk_msg.specs.declared.content.Content.{Content}
use Rattle.sk_msg.specs.declared.entry.Entry.{Entry}
use Rattle.sk_msg.specs.declared.entry.Entry.TheVariants.{Got, Put, Hand, State as Entered, System as Judged, Begin, Done, End, Ask, Gone, Stray, Did, Fault}
use Rattle.sk_msg.specs.declared.state.State.{State}
use Rattle.sk_system.specs.View.{View}
use Rattle.sk_law.specs.declared.memory.Begun.{Begun}
use Rattle.sk_law.specs.declared.said.Said.{Said}
use Rattle.sk_law.specs.declared.setup.Setup.{Setup}
use Rattle.sk_law.specs.Growing.{GoesByEntries, gone_after, got_after, put_after}
use Rattle.sk_law.specs.Order.{said_of, status_of}
use Rattle.sk_law.specs.Readings.{last_begun, begun_after, open_step, open_after, state_of, state_after, is_gone, got, put}
use Rattle.sk_law.specs.Links.{Seen, Taken, unseen, seen_after, take_in, taken_of, of_peer, is_in_order, required_by}
use Rattle.sk_law.specs.declared.line.Line.{Line}
use Rattle.sk_law.specs.declared.tally.Tally.{Tally}
use Rattle.sk_law.specs.Tallies.{tally_after}
use Rattle.sk_law.specs.Tied.{IsPlain, MayEnter, Tied, all_of, seen_in, taken_in, no_line, line_of, line_after, heard_line, queued, known_of, numbered, own_among, limit_in}
use Rattle.sk_law.proofs.Counting.{tally-add}

-- ## One line

or_no : (b : Bool) → (b || false) ≡ b
or_no true = refl
or_no false = refl

or_yes : (b : Bool) → (b || true) ≡ true
or_yes true = refl
or_yes false = refl

abbrev pub a_line : Bool → List Content → ℕ → Said → Line
a_line gone waiting got said = record { gone = gone; waiting = waiting; got = got; said = said }

-- whether an entry is a message in order
abbrev pub orderly : Setup → List (List ℕ) → Seen → Entry → Bool
orderly S tools s (Got q m) = is_in_order S tools s q m
orderly S tools s _ = false

-- what came in order, with an entry more
abbrev pub taken_by : Bool → Entry → List Taken → List Taken
taken_by b (Got q m) t = if b then t ++ record { peer = q; message = m } ∷ [] else t
taken_by b _ t = t

-- the same of one number
abbrev peer_by : Bool → ℕ → Entry → List Content → List Content
peer_by b p (Got q m) ms = if b then (if q == p then ms ++ m ∷ [] else ms) else ms
peer_by b p _ ms = ms

pub of_peer-more : (p q : ℕ) (m : Content) (t : List Taken) → of_peer p (t ++ record { peer = q; message = m } ∷ []) ≡ (if q == p then of_peer p t ++ m ∷ [] else of_peer p t)
of_peer-more p q m t = filter_map-append (taken_of p) t (record { peer = q; message = m } ∷ []) ∙ on (q == p)
  where
    on : (b : Bool) → of_peer p t ++ cons_option (if b then Some m else None) [] ≡ (if b then of_peer p t ++ m ∷ [] else of_peer p t)
    on true = refl
    on false = append-nil (of_peer p t)

peer-by : (b : Bool) (p : ℕ) (e : Entry) (t : List Taken) → of_peer p (taken_by b e t) ≡ peer_by b p e (of_peer p t)
peer-by true p (Got q m) t = of_peer-more p q m t
peer-by false p (Got q m) t = refl
peer-by b p (Put q m) t = refl
peer-by b p (Hand q k r) t = refl
peer-by b p (Entered s) t = refl
peer-by b p (Judged s) t = refl
peer-by b p (Begin k at) t = refl
peer-by b p (Done k) t = refl
peer-by b p (End k) t = refl
peer-by b p (Ask c v) t = refl
peer-by b p (Gone q r) t = refl
peer-by b p (Stray k) t = refl
peer-by b p (Did s c m) t = refl
peer-by b p (Fault k) t = refl

-- the line of one number, in its parts
raised : (law : GoesByEntries) (b : Bool) (p k : ℕ) (gone : Bool) (xs ys ms : List Content) (e : Entry) → k ≤ length xs →
    a_line (gone_after p gone e) (drop k (put_after p xs e)) (length (got_after p ys e)) (said_of (peer_by b p e ms)) ≡ line_after b p (a_line gone (drop k xs) (length ys) (said_of ms)) e
raised law b p k gone xs ys ms (Got q m) le = on (q == p) b
  where
    on : (c b : Bool) → a_line gone (drop k xs) (length (if c then ys ++ m ∷ [] else ys)) (said_of (if b then (if c then ms ++ m ∷ [] else ms) else ms))
        ≡ (if c then heard_line b m (a_line gone (drop k xs) (length ys) (said_of ms)) else a_line gone (drop k xs) (length ys) (said_of ms))
    on true true = ap₂ (a_line gone (drop k xs)) (length-append ys (m ∷ [])) (law.said ms m)
    on true false = ap (λ n. a_line gone (drop k xs) n (said_of ms)) (length-append ys (m ∷ []))
    on false true = refl
    on false false = refl
raised law b p k gone xs ys ms (Put q m) le = on (q == p)
  where
    on : (c : Bool) → a_line gone (drop k (if c then xs ++ m ∷ [] else xs)) (length ys) (said_of ms)
        ≡ (if c then a_line gone (drop k xs ++ m ∷ []) (length ys) (said_of ms) else a_line gone (drop k xs) (length ys) (said_of ms))
    on true = ap (λ ws. a_line gone ws (length ys) (said_of ms)) (drop-append-le k xs (m ∷ []) le)
    on false = refl
raised law b p k gone xs ys ms (Gone q reason) le = on (q == p)
  where
    on : (c : Bool) → a_line (gone || c) (drop k xs) (length ys) (said_of ms)
        ≡ (if c then a_line true (drop k xs) (length ys) (said_of ms) else a_line gone (drop k xs) (length ys) (said_of ms))
    on true = ap (λ g. a_line g (drop k xs) (length ys) (said_of ms)) (or_yes gone)
    on false = ap (λ g. a_line g (drop k xs) (length ys) (said_of ms)) (or_no gone)
raised law b p k gone xs ys ms (Hand q n r) le = refl
raised law b p k gone xs ys ms (Entered s) le = refl
raised law b p k gone xs ys ms (Judged s) le = refl
raised law b p k gone xs ys ms (Begin n t) le = refl
raised law b p k gone xs ys ms (Done n) le = refl
raised law b p k gone xs ys ms (End n) le = refl
raised law b p k gone xs ys ms (Ask c v) le = refl
raised law b p k gone xs ys ms (Stray n) le = refl
raised law b p k gone xs ys ms (Did s c m) le = refl
raised law b p k gone xs ys ms (Fault n) le = refl

line-add : (law : GoesByEntries) (b : Bool) (t : List Taken) (out : List ℕ) (es : List Entry) (e : Entry) (p : ℕ) → slice_index_or out p 0 ≤ length (put es p) →
    line_of (taken_by b e t) out (es ++ e ∷ []) p ≡ line_after b p (line_of t out es p) e
line-add law b t out es e p le =
    ap (λ g. a_line g (drop (slice_index_or out p 0) (put (es ++ e ∷ []) p)) (length (got (es ++ e ∷ []) p)) (said_of (of_peer p (taken_by b e t)))) (law.gone p es e)
    ∙ ap (λ ws. a_line (gone_after p (is_gone es p) e) (drop (slice_index_or out p 0) ws) (length (got (es ++ e ∷ []) p)) (said_of (of_peer p (taken_by b e t)))) (law.put_is p es e)
    ∙ ap₂ (λ gs ms. a_line (gone_after p (is_gone es p) e) (drop (slice_index_or out p 0) (put_after p (put es p) e)) (length gs) (said_of ms)) (law.got_is p es e) (peer-by b p e t)
    ∙ raised law b p (slice_index_or out p 0) (is_gone es p) (put es p) (got es p) (of_peer p t) e le

-- ## What is seen

seen-add : (S : Setup) (tools : List (List ℕ)) (es : List Entry) (e : Entry) → seen_in S tools (es ++ e ∷ []) ≡ seen_after S tools (seen_in S tools es) e
seen-add S tools es e = fold-append (seen_after S tools) unseen es (e ∷ [])

taken-step : (S : Setup) (tools : List (List ℕ)) (s : Seen) (e : Entry) → (seen_after S tools s e).taken ≡ taken_by (orderly S tools s e) e s.taken
taken-step S tools s (Got q m) = on (is_in_order S tools s q m)
  where
    on : (b : Bool) → (if b then take_in q m s else s).taken ≡ (if b then s.taken ++ record { peer = q; message = m } ∷ [] else s.taken)
    on true = refl
    on false = refl
taken-step S tools s (Put q m) = refl
taken-step S tools s (Hand q k r) = refl
taken-step S tools s (Entered to) = refl
taken-step S tools s (Judged to) = refl
taken-step S tools s (Begin k t) = refl
taken-step S tools s (Done k) = refl
taken-step S tools s (End k) = refl
taken-step S tools s (Ask c v) = refl
taken-step S tools s (Gone q r) = refl
taken-step S tools s (Stray k) = refl
taken-step S tools s (Did i c m) = refl
taken-step S tools s (Fault k) = refl

pub taken-add : (S : Setup) (tools : List (List ℕ)) (es : List Entry) (e : Entry) → taken_in S tools (es ++ e ∷ []) ≡ taken_by (orderly S tools (seen_in S tools es) e) e (taken_in S tools es)
taken-add S tools es e = ap (λ (s : Seen). s.taken) (seen-add S tools es e) ∙ taken-step S tools (seen_in S tools es) e

-- ## Other numbers

pub not_same : (a b : ℕ) → (a ≡ b → ⊥) → (a == b) ≡ false
not_same a b h = on (a == b) refl
  where
    on : (c : Bool) → (a == b) ≡ c → c ≡ false
    on true e = absurd (h (eqb-true a b e))
    on false e = refl

still-no-gone : (all p : ℕ) (e : Entry) → MayEnter all e → all ≤ p → gone_after p false e ≡ false
still-no-gone all p (Gone q r) may le = not_same q p (λ e. absurd (omega arith))
still-no-gone all p (Got q m) may le = refl
still-no-gone all p (Put q m) may le = refl
still-no-gone all p (Hand q k r) may le = refl
still-no-gone all p (Entered to) may le = refl
still-no-gone all p (Judged to) may le = refl
still-no-gone all p (Begin k t) may le = refl
still-no-gone all p (Done k) may le = refl
still-no-gone all p (End k) may le = refl
still-no-gone all p (Ask c v) may le = refl
still-no-gone all p (Stray k) may le = refl
still-no-gone all p (Did i c m) may le = refl
still-no-gone all p (Fault k) may le = refl

still-no-got : (all p : ℕ) (e : Entry) → MayEnter all e → all ≤ p → got_after p [] e ≡ []
still-no-got all p (Got q m) may le = ap (λ (b : Bool). if b then m ∷ [] else []) (not_same q p (λ e. absurd (omega arith)))
still-no-got all p (Gone q r) may le = refl
still-no-got all p (Put q m) may le = refl
still-no-got all p (Hand q k r) may le = refl
still-no-got all p (Entered to) may le = refl
still-no-got all p (Judged to) may le = refl
still-no-got all p (Begin k t) may le = refl
still-no-got all p (Done k) may le = refl
still-no-got all p (End k) may le = refl
still-no-got all p (Ask c v) may le = refl
still-no-got all p (Stray k) may le = refl
still-no-got all p (Did i c m) may le = refl
still-no-got all p (Fault k) may le = refl

-- ## Early steps

abbrev IsEarly : Option Begun → Type 0
IsEarly o = IfSome o (λ step. step.time ≤ 2 ^ 61)

still-early : (all : ℕ) (o : Option Begun) (e : Entry) → MayEnter all e → IsEarly o → IsEarly (begun_after o e)
still-early all o (Begin k t) may h = may
still-early all o (Got q m) may h = h
still-early all o (Put q m) may h = h
still-early all o (Hand q k r) may h = h
still-early all o (Entered to) may h = h
still-early all o (Judged to) may h = h
still-early all o (Done k) may h = h
still-early all o (End k) may h = h
still-early all o (Ask c v) may h = h
still-early all o (Gone q r) may h = h
still-early all o (Stray k) may h = h
still-early all o (Did i c m) may h = h
still-early all o (Fault k) may h = h

open-early : (all : ℕ) (o : Option Begun) (e : Entry) → MayEnter all e → IsEarly o → IsEarly (open_after o e)
open-early all o (Begin k t) may h = may
open-early all o (End k) may h = tt
open-early all o (Got q m) may h = h
open-early all o (Put q m) may h = h
open-early all o (Hand q k r) may h = h
open-early all o (Entered to) may h = h
open-early all o (Judged to) may h = h
open-early all o (Done k) may h = h
open-early all o (Ask c v) may h = h
open-early all o (Gone q r) may h = h
open-early all o (Stray k) may h = h
open-early all o (Did i c m) may h = h
open-early all o (Fault k) may h = h

-- ## What each counter has to be behind an entry

still-within : (law : GoesByEntries) (es : List Entry) (e : Entry) (p k : ℕ) → k ≤ length (put es p) → k ≤ length (put (es ++ e ∷ []) p)
still-within law es e p k le = subst (λ xs. k ≤ length xs) (sym (filter_map-append _ es (e ∷ []))) (subst (λ n. k ≤ n) (sym (length-append (put es p) (put (e ∷ []) p))) (omega arith))

pub tied-add : {S : Setup} {tools : List (List ℕ)} {out : List ℕ} {es : List Entry} {tally : Tally} {lines : List Line} {view : View} {awaited : Option Bool} {limit : ℕ}
    (law : GoesByEntries) (e : Entry) (tally' : Tally) (lines' : List Line) (view' : View) (awaited' : Option Bool) (limit' : ℕ) (all : List Entry) (t : List Taken) →
    Tied S tools out es tally lines view awaited limit → all ≡ es ++ e ∷ [] → MayEnter (all_of S tools) e →
    t ≡ taken_by (orderly S tools (seen_in S tools es) e) e (taken_in S tools es) →
    tally' ≡ tally_after tally e →
    length lines' ≡ all_of S tools →
    ((p : ℕ) → p < all_of S tools → slice_index_or lines' p no_line ≡ line_after (orderly S tools (seen_in S tools es) e) p (slice_index_or lines p no_line) e) →
    length view'.known ≡ length S.names →
    ((p : ℕ) → p < length S.names → slice_index_or view'.known p None ≡ known_of S t (state_after (state_of es) e) p) →
    view'.required ≡ option_map (numbered S.names) (required_by S t) →
    awaited' ≡ option_map (own_among S) (required_by S t) →
    limit' ≡ limit_in S t →
    Tied S tools out all tally' lines' view' awaited' limit'
tied-add {S} {tools} {out} {es} {tally} {lines} {view} law e tally' lines' view' awaited' limit' all t h made may took counts many line knowns known required awaits limits =
    let taken : taken_in S tools (es ++ e ∷ []) ≡ t = taken-add S tools es e ∙ sym took in
    let b : Bool = orderly S tools (seen_in S tools es) e in
    subst (λ x. Tied S tools out x tally' lines' view' awaited' limit') (sym made) (record {
      own = h.own;
      few = h.few;
      few_tools = h.few_tools;
      sized = h.sized;
      duration = h.duration;
      early = subst IsEarly (sym (law.begun es e)) (still-early (all_of S tools) (last_begun es) e may h.early);
      open_early = subst IsEarly (sym (law.step es e)) (open-early (all_of S tools) (open_step es) e may h.open_early);
      tally_is = counts ∙ ap (λ c. tally_after c e) h.tally_is ∙ sym (tally-add law es e);
      all_lines = many;
      all_out = h.all_out;
      line = λ p lt. line p lt ∙ ap (λ l. line_after b p l e) (h.line p lt) ∙ sym (line-add law b (taken_in S tools es) out es e p (h.within p lt))
          ∙ ap (λ x. line_of x out (es ++ e ∷ []) p) (sym (taken-add S tools es e));
      within = λ p lt. still-within law es e p (slice_index_or out p 0) (h.within p lt);
      no_gone = λ p le. law.gone p es e ∙ ap (λ g. gone_after p g e) (h.no_gone p le) ∙ still-no-gone (all_of S tools) p e may le;
      no_got = λ p le. law.got_is p es e ∙ ap (λ g. got_after p g e) (h.no_got p le) ∙ still-no-got (all_of S tools) p e may le;
      all_known = knowns;
      known = λ p lt. known p lt ∙ ap₂ (λ x s. known_of S x s p) (sym taken) (sym (law.state es e));
      required = required ∙ ap (λ x. option_map (numbered S.names) (required_by S x)) (sym taken);
      awaited_is = awaits ∙ ap (λ x. option_map (own_among S) (required_by S x)) (sym taken);
      limit_is = limits ∙ ap (limit_in S) (sym taken);
    })

-- an entry that no line, no message and no state hangs on
pub tied-plain : {S : Setup} {tools : List (List ℕ)} {out : List ℕ} {es : List Entry} {tally : Tally} {lines : List Line} {view : View} {awaited : Option Bool} {limit : ℕ}
    (law : GoesByEntries) (e : Entry) (tally' : Tally) (all : List Entry) →
    Tied S tools out es tally lines view awaited limit → all ≡ es ++ e ∷ [] → MayEnter (all_of S tools) e → tally' ≡ tally_after tally e →
    ((b : Bool) (p : ℕ) (l : Line) → line_after b p l e ≡ l) → ((b : Bool) (t : List Taken) → taken_by b e t ≡ t) → ((s : State) → state_after s e ≡ s) →
    Tied S tools out all tally' lines view awaited limit
tied-plain {S} {tools} {es = es} {lines = lines} {view} {awaited} {limit} law e tally' all h made may counts line took states =
    let b : Bool = orderly S tools (seen_in S tools es) e in
    tied-add law e tally' lines view awaited limit all (taken_in S tools es) h made may (sym (took b (taken_in S tools es))) counts h.all_lines
    (λ p lt. sym (line b p (slice_index_or lines p no_line)))
    h.all_known (λ p lt. h.known p lt ∙ ap (λ s. known_of S (taken_in S tools es) s p) (sym (states (state_of es))))
    h.required h.awaited_is h.limit_is

-- entries that no counter hangs on
pub tied-other : {S : Setup} {tools : List (List ℕ)} {out : List ℕ} {es : List Entry} {tally : Tally} {lines : List Line} {view : View} {awaited : Option Bool} {limit : ℕ}
    (law : GoesByEntries) (e : Entry) (all : List Entry) → IsPlain e → Tied S tools out es tally lines view awaited limit → all ≡ es ++ e ∷ [] → Tied S tools out all tally lines view awaited limit
tied-other law (Hand p k r) all plain h made = tied-plain law _ _ _ h made tt refl (λ b p l. refl) (λ b t. refl) (λ s. refl)
tied-other law (Ask c v) all plain h made = tied-plain law _ _ _ h made tt refl (λ b p l. refl) (λ b t. refl) (λ s. refl)
tied-other law (Stray n) all plain h made = tied-plain law _ _ _ h made tt refl (λ b p l. refl) (λ b t. refl) (λ s. refl)
tied-other law (Did s c m) all plain h made = tied-plain law _ _ _ h made tt refl (λ b p l. refl) (λ b t. refl) (λ s. refl)
tied-other law (Fault n) all plain h made = tied-plain law _ _ _ h made tt refl (λ b p l. refl) (λ b t. refl) (λ s. refl)
tied-other law (Got p m) all plain h made = absurd plain
tied-other law (Put p m) all plain h made = absurd plain
tied-other law (Gone p m) all plain h made = absurd plain
tied-other law (Entered s) all plain h made = absurd plain
tied-other law (Judged s) all plain h made = absurd plain
tied-other law (Begin n t) all plain h made = absurd plain
tied-other law (Done n) all plain h made = absurd plain
tied-other law (End n) all plain h made = absurd plain

-- of one item changed
pub changed_at : {X : Type 0} (xs : List X) (q : ℕ) (v d : X) (P : ℕ → X → Type 0) → q < length xs → P q v → ((p : ℕ) → (p ≡ q → ⊥) → P p (slice_index_or xs p d)) →
    (p : ℕ) → P p (slice_index_or (slice_set xs q v) p d)
changed_at xs q v d P lt here there p = ⊎_elim
    (λ (e : p ≡ q). subst (λ r. P r (slice_index_or (slice_set xs q v) r d)) (sym e) (subst (P q) (sym (get_or-set_same xs q v d lt)) here))
    (λ (ne : p ≡ q → ⊥). subst (P p) (sym (get_or-set_other xs q p v d ne)) (there p ne)) (cases_eq p q)

pub tied-put : {S : Setup} {tools : List (List ℕ)} {out : List ℕ} {es : List Entry} {tally : Tally} {lines : List Line} {view : View} {awaited : Option Bool} {limit : ℕ}
    (law : GoesByEntries) (q : ℕ) (m : Content) (tally' : Tally) (lines' : List Line) (all : List Entry) → Tied S tools out es tally lines view awaited limit → all ≡ es ++ Put q m ∷ [] →
    tally' ≡ tally_after tally (Put q m) → lines' ≡ queued q m lines → Tied S tools out all tally' lines' view awaited limit
tied-put {S} {tools} {es = es} {lines = lines} {view} {awaited} {limit} law q m tally' lines' all h made counts put =
    tied-add law (Put q m) tally' lines' view awaited limit all (taken_in S tools es) h made tt refl counts
    (ap length put ∙ long (nat_lt q (length lines)) ∙ h.all_lines)
    (λ p lt. subst (λ ls. slice_index_or ls p no_line ≡ line_after false p (slice_index_or lines p no_line) (Put q m)) (sym put) (at (nat_lt q (length lines)) refl p lt))
    h.all_known h.known h.required h.awaited_is h.limit_is
  where
    new : Line
    new = line_after false q (slice_index_or lines q no_line) (Put q m)

    long : (b : Bool) → length (if b then slice_set lines q new else lines) ≡ length lines
    long true = length-set lines q new
    long false = refl

    other : (p : ℕ) (l : Line) → (q ≡ p → ⊥) → line_after false p l (Put q m) ≡ l
    other p l ne = ap (λ (b : Bool). if b then record l { waiting = l.waiting ++ m ∷ [] } else l) (not_same q p ne)

    at : (b : Bool) → nat_lt q (length lines) ≡ b → (p : ℕ) → p < all_of S tools →
        slice_index_or (if b then slice_set lines q new else lines) p no_line ≡ line_after false p (slice_index_or lines p no_line) (Put q m)
    at true e p lt = changed_at lines q new no_line (λ r l. l ≡ line_after false r (slice_index_or lines r no_line) (Put q m)) (ltb-true q (length lines) e) refl
        (λ r ne. sym (other r (slice_index_or lines r no_line) (λ f. ne (sym f)))) p
    at false e p lt = sym (other p (slice_index_or lines p no_line) (λ f. far (subst (λ r. r < length lines) (sym f) (subst (λ n. p < n) (sym h.all_lines) lt))))
      where
        far : q < length lines → ⊥
        far l = let no : false ≡ true = sym e ∙ lt-ltb q (length lines) l in cc

pub tied-state : {S : Setup} {tools : List (List ℕ)} {out : List ℕ} {es : List Entry} {tally : Tally} {lines : List Line} {view : View} {awaited : Option Bool} {limit : ℕ}
    (law : GoesByEntries) (to : State) (tally' : Tally) (view' : View) (all : List Entry) → Tied S tools out es tally lines view awaited limit → all ≡ es ++ Entered to ∷ [] →
    tally' ≡ tally_after tally (Entered to) → view' ≡ record view { known = slice_set view.known S.number (Some to) } → Tied S tools out all tally' lines view' awaited limit
tied-state {S} {tools} {out} {es} {lines = lines} {view} {awaited} {limit} law to tally' view' all h made counts noted =
    subst (λ v. Tied S tools out all tally' lines v awaited limit) (sym noted) (tied-add law (Entered to) tally' lines (record view { known = slice_set view.known S.number (Some to) }) awaited limit all (taken_in S tools es) h made tt refl counts h.all_lines (λ p lt. refl)
    (length-set view.known S.number (Some to) ∙ h.all_known)
    (λ p lt. changed_at view.known S.number (Some to) None (λ r s. r < length S.names → s ≡ known_of S (taken_in S tools es) to r) (subst (λ n. S.number < n) (sym h.all_known) h.own)
    (λ l. ap (λ b. if b then Some to else status_of (of_peer S.number (taken_in S tools es))) (sym (eq-eqb S.number S.number refl)))
    (λ r ne l. h.known r l ∙ same r (r == S.number) (not_same r S.number ne)) p lt)
    h.required h.awaited_is h.limit_is)
  where
    same : (r : ℕ) (b : Bool) → b ≡ false → (if b then Some (state_of es) else status_of (of_peer r (taken_in S tools es))) ≡ (if b then Some to else status_of (of_peer r (taken_in S tools es)))
    same r false e = refl
    same r true e = let no : true ≡ false = e in cc

pub tied-gone : {S : Setup} {tools : List (List ℕ)} {out : List ℕ} {es : List Entry} {tally : Tally} {lines : List Line} {view : View} {awaited : Option Bool} {limit : ℕ}
    (law : GoesByEntries) (q reason : ℕ) (lines' : List Line) (all : List Entry) → Tied S tools out es tally lines view awaited limit → all ≡ es ++ Gone q reason ∷ [] →
    q < all_of S tools → lines' ≡ slice_set lines q (record (slice_index_or lines q no_line) { gone = true }) → Tied S tools out all tally lines' view awaited limit
tied-gone {S} {tools} {es = es} {tally} {lines} {view} {awaited} {limit} law q reason lines' all h made small gone =
    tied-add law (Gone q reason) tally lines' view awaited limit all (taken_in S tools es) h made small refl refl
    (ap length gone ∙ length-set lines q new ∙ h.all_lines)
    (λ p lt. subst (λ ls. slice_index_or ls p no_line ≡ line_after false p (slice_index_or lines p no_line) (Gone q reason)) (sym gone)
    (changed_at lines q new no_line (λ r l. l ≡ line_after false r (slice_index_or lines r no_line) (Gone q reason)) (subst (λ n. q < n) (sym h.all_lines) small)
    (ap (λ (b : Bool). if b then new else slice_index_or lines q no_line) (sym (eq-eqb q q refl)))
    (λ r ne. sym (other r (slice_index_or lines r no_line) (λ f. ne (sym f)))) p))
    h.all_known h.known h.required h.awaited_is h.limit_is
  where
    new : Line
    new = record (slice_index_or lines q no_line) { gone = true }

    other : (p : ℕ) (l : Line) → (q ≡ p → ⊥) → line_after false p l (Gone q reason) ≡ l
    other p l ne = ap (λ (b : Bool). if b then record l { gone = true } else l) (not_same q p ne)
