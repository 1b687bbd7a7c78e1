-- The journal of a participant that was just made.
use Rattle.std.specs.Prelude.{◌≡◌, ◌<◌, ◌≤◌, refl, ℕ, zero, suc, ◌+◌, ◌*◌, ◌==◌, Bool, true, false, not, ◌&&◌, IsTrue, List, [], ◌∷◌, ◌++◌, map, length, filter, slice_index_or, None, if◌then◌else◌}
use Rattle.std.specs.List.{flat_map, range_with_len}
use Rattle.std.proofs.Common.{ap, sym, ◌∙◌, subst, arith}
use Rattle.std.proofs.lemmas.Bool.{and_parts, eqb-true, le-leb}
use Rattle.std.proofs.lemmas.List.{length-append, length-map}
use Rattle.std.proofs.lemmas.List.FromFn.{length-range_with_len}
use Rattle.std.proofs.lemmas.List.Sums.{sum_by-append}
use Rattle.sk_msg.specs.declared.content.Content.{Content}
use Rattle.sk_msg.specs.declared.content.Content.TheVariants as contents
use Rattle.sk_msg.specs.declared.entry.Entry.{Entry}
use Rattle.sk_msg.specs.declared.entry.Entry.TheVariants.{Put, State as Entered, System as Judged}
use Rattle.sk_msg.specs.declared.service.Service.{Service}
use Rattle.sk_msg.specs.declared.state.State.TheVariants.{ServicesCreated}
use Rattle.sk_msg.specs.Rules.{is_service_id}
use Rattle.sk_msg.specs.States.{is_state}
use Rattle.sk_pubsub.specs.Announcing.{are_numbered}
use Rattle.sk_law.specs.declared.memory.Memory.{Memory}
use Rattle.sk_law.specs.declared.setup.Setup.{Setup}
use Rattle.sk_law.specs.Past.{Past, add, put_each}
use Rattle.sk_law.specs.Readings.{system_told, payload, payload_in, is_gone, put}
use Rattle.sk_law.specs.Links.{own_name, peers, reached, told, system}
use Rattle.sk_law.specs.Lawful.{Lawful, starts}
use Rattle.sk_law.specs.Services.{new_states}
use Rattle.sk_law.specs.Blocks.{hello, announced_service, introduction, making, enter, enter_until, enter_only, judge_system}
use Rattle.sk_law.specs.Kept.{Kept, grown}
use Rattle.sk_node.specs.Known.{IsSound}
use Rattle.sk_node.specs.Making.{greeting, introduced}

-- ## What is put first

-- of services that are numbered each has its place as number
number_at : (next : ℕ) (services : List Service) (place : ℕ) (s : Service) → IsTrue (are_numbered next services) → place < length services →
    (slice_index_or services place s).id ≡ next + place
number_at next [] place s numbered within = absurd (omega (arith, within))
number_at next (first ∷ services) zero s numbered within = eqb-true first.id next (and_parts (first.id == next) (are_numbered (next + 1) services) numbered).0 ∙ omega arith
number_at next (first ∷ services) (suc place) s numbered within =
    number_at (next + 1) services place s (and_parts (first.id == next) (are_numbered (next + 1) services) numbered).1 (omega (arith, within)) ∙ omega arith

-- so of at most 64 each may be announced
pub may_announce : (services : List Service) (place : ℕ) (s : Service) → IsTrue (are_numbered 0 services) → s ≡ slice_index_or services place s →
    place < length services → length services ≤ 64 → IsTrue (is_service_id s.id)
unfolding is_service_id
may_announce services place s numbered is within few =
    let n : s.id ≡ 0 + place = ap (λ (x : Service). x.id) is ∙ number_at 0 services place s numbered within in
    le-leb s.id 63 (omega (arith, n, within, few))

-- nothing has happened to one that is made with this
abbrev nothing : Setup → Past
nothing S = record { journal = []; memory = record { called = false; asked = false; pause = None; tools = []; services = new_states S.services; ready_awaited = false } }

-- each peer was told its introduction
abbrev told_first : Setup → Past
told_first S = introduced (introduction S) (peers S) (nothing S)

entered : (S : Setup) (past : Past) → enter S ServicesCreated past ≡ enter_only S ServicesCreated 0 past
unfolding enter_until is_state
entered S past = refl

making_is : (S : Setup) → making S ≡ enter_only S ServicesCreated 0 (told_first S)
unfolding making
making_is S = entered S (told_first S)

and_true : (b : Bool) → (b && true) ≡ b
and_true true = refl
and_true false = refl

-- at first nobody is gone
reached_first : (S : Setup) (xs : List ℕ) → filter (λ p. not (p == S.number) && not (is_gone [] p)) xs ≡ filter (λ p. not (p == S.number)) xs
reached_first S [] = refl
reached_first S (x ∷ xs) =
    ap (λ (b : Bool). if b then x ∷ filter (λ p. not (p == S.number) && not (is_gone [] p)) xs else filter (λ p. not (p == S.number) && not (is_gone [] p)) xs) (and_true (not (x == S.number)))
    ∙ ap (λ ys. if not (x == S.number) then x ∷ ys else ys) (reached_first S xs)

made_past : (S : Setup) (first : Past) → first ≡ nothing S → enter_only S ServicesCreated 0 (introduced (introduction S) (reached S first) first) ≡ making S
made_past S first f =
    ap (λ past. enter_only S ServicesCreated 0 (introduced (introduction S) (reached S past) past)) f
    ∙ ap (λ ps. enter_only S ServicesCreated 0 (introduced (introduction S) ps (nothing S))) (reached_first S (range_with_len 0 (length S.names)))
    ∙ sym (making_is S)

-- of no entry
pub first_is : (S : Setup) (past : Past) → past.journal ≡ [] → past.memory ≡ (nothing S).memory → past ≡ nothing S
first_is S past j m =
    ap (λ (es : List Entry). record past { journal = es }) j
    ∙ ap (λ (x : Memory). record { journal = []; memory = x }) m

-- the steps of the code, one behind another
pub made_steps : (S : Setup) (k0 k1 k2 : Kept) (ps : List ℕ) (ms : List Content) → ms ≡ introduction S → k0.setup ≡ S → k0.past ≡ nothing S → ps ≡ reached k0.setup k0.past →
    k1 ≡ grown (introduced ms ps k0.past) k0 → k2 ≡ grown (enter_only k1.setup ServicesCreated 0 k1.past) k1 → k2.past ≡ making S
made_steps S k0 k1 k2 ps ms m s f p j k =
    ap (λ (x : Kept). x.past) k
    ∙ ap (λ (x : Kept). enter_only x.setup ServicesCreated 0 x.past) j
    ∙ ap (λ x. enter_only k0.setup ServicesCreated 0 (introduced x ps k0.past)) m
    ∙ ap (λ x. enter_only k0.setup ServicesCreated 0 (introduced (introduction S) x k0.past)) p
    ∙ ap (λ (x : Setup). enter_only x ServicesCreated 0 (introduced (introduction S) (reached x k0.past) k0.past)) s
    ∙ made_past S k0.past f

-- ## It is short and light

filter_shorter : (test : ℕ → Bool) (xs : List ℕ) → length (filter test xs) ≤ length xs
filter_shorter test [] = omega arith
filter_shorter test (x ∷ xs) = by (test x) (filter_shorter test xs)
  where
    by : (b : Bool) → length (filter test xs) ≤ length xs → length (if b then x ∷ filter test xs else filter test xs) ≤ length (x ∷ xs)
    by true h = omega arith
    by false h = omega arith

-- at most 66 messages to each
greetings_length : (ms : List Content) (ps : List ℕ) → length ms ≤ 66 → length (flat_map (greeting ms) ps) ≤ 66 * length ps
greetings_length ms [] few = omega arith
greetings_length ms (p ∷ ps) few = omega (arith, n, m, greetings_length ms ps few, few)
  where
    n : length (greeting ms p ++ flat_map (greeting ms) ps) ≡ length (greeting ms p) + length (flat_map (greeting ms) ps)
    n = length-append (greeting ms p) (flat_map (greeting ms) ps)

    m : length (greeting ms p) ≡ length ms
    m = length-map ms (λ m. Put p m)

introduction_length : (S : Setup) → length S.services ≤ 64 → length (introduction S) ≤ 66
introduction_length S few = omega (arith, n, m, few)
  where
    n : length (map announced_service S.services ++ contents.ServicesEnd ∷ []) ≡ length (map announced_service S.services) + 1
    n = length-append (map announced_service S.services) (contents.ServicesEnd ∷ [])

    m : length (map announced_service S.services) ≡ length S.services
    m = length-map S.services announced_service

-- none of them carries bytes
services_weight : (p : ℕ) (services : List Service) → payload (greeting (map announced_service services ++ contents.ServicesEnd ∷ []) p) ≡ 0
services_weight p [] = refl
services_weight p (s ∷ services) =
    sum_by-append payload_in (Put p (announced_service s) ∷ []) (greeting (map announced_service services ++ contents.ServicesEnd ∷ []) p) ∙ ap (λ n. 0 + n) (services_weight p services)

greeting_weight : (S : Setup) (p : ℕ) → payload (greeting (introduction S) p) ≡ 0
greeting_weight S p =
    sum_by-append payload_in (Put p (hello S (own_name S)) ∷ []) (greeting (map announced_service S.services ++ contents.ServicesEnd ∷ []) p) ∙ ap (λ n. 0 + n) (services_weight p S.services)

greetings_weight : (ms : List Content) (ps : List ℕ) → ((p : ℕ) → payload (greeting ms p) ≡ 0) → payload (flat_map (greeting ms) ps) ≡ 0
greetings_weight ms [] light = refl
greetings_weight ms (p ∷ ps) light = sum_by-append payload_in (greeting ms p) (flat_map (greeting ms) ps) ∙ omega (arith, light p, greetings_weight ms ps light)

status_weight : (m : List ℕ) → payload (map (λ q. Put q (contents.Status ServicesCreated 0)) m) ≡ 0
status_weight [] = refl
status_weight (q ∷ m) = sum_by-append payload_in (Put q (contents.Status ServicesCreated 0) ∷ []) (map (λ q. Put q (contents.Status ServicesCreated 0)) m) ∙ ap (λ n. 0 + n) (status_weight m)

one_more : (es : List Entry) (e : Entry) → length (es ++ e ∷ []) ≤ length es + 1
one_more es e = let n : length (es ++ e ∷ []) ≡ length es + 1 = length-append es (e ∷ []) in omega (arith, n)

-- at most one more, which weighs nothing
judged : (S : Setup) (past : Past) → (length (judge_system S past).journal ≤ length past.journal + 1) × (payload (judge_system S past).journal ≡ payload past.journal)
unfolding judge_system
judged S past = by (is_state (system S past) (system_told past.journal))
  where
    by : (b : Bool) → (length (if b then past else add (Judged (system S past)) past).journal ≤ length past.journal + 1) × (payload (if b then past else add (Judged (system S past)) past).journal ≡ payload past.journal)
    by true = (omega arith, refl)
    by false = (one_more past.journal (Judged (system S past)), sum_by-append payload_in past.journal (Judged (system S past) ∷ []) ∙ omega arith)

first_entry : (S : Setup) (past : Past) → past.memory.tools ≡ [] →
    (length (enter_only S ServicesCreated 0 past).journal ≤ length past.journal + (length S.names + 2)) × (payload (enter_only S ServicesCreated 0 past).journal ≡ payload past.journal)
first_entry S past tools =
    (omega (arith, last.0, n, m, t, l, u), last.1 ∙ sum_by-append payload_in (past.journal ++ Entered ServicesCreated ∷ []) statuses ∙ omega (arith, w, v))
  where
    statuses : List Entry
    statuses = map (λ q. Put q (contents.Status ServicesCreated 0)) (told S past)

    put_out : Past
    put_out = put_each (told S past) (contents.Status ServicesCreated 0) (add (Entered ServicesCreated) past)

    last : (length (judge_system S put_out).journal ≤ length put_out.journal + 1) × (payload (judge_system S put_out).journal ≡ payload put_out.journal)
    last = judged S put_out

    n : length put_out.journal ≡ length (past.journal ++ Entered ServicesCreated ∷ []) + length statuses
    n = length-append (past.journal ++ Entered ServicesCreated ∷ []) statuses

    m : length (past.journal ++ Entered ServicesCreated ∷ []) ≡ length past.journal + 1
    m = length-append past.journal (Entered ServicesCreated ∷ [])

    t : length statuses ≡ length (told S past)
    t = length-map (told S past) (λ q. Put q (contents.Status ServicesCreated 0))

    l : length (told S past) ≤ length (range_with_len 0 (length S.names + length past.memory.tools))
    l = filter_shorter (λ p. not (p == S.number) && not (is_gone past.journal p)) (range_with_len 0 (length S.names + length past.memory.tools))

    u : length (range_with_len 0 (length S.names + length past.memory.tools)) ≡ length S.names
    u = length-range_with_len 0 (length S.names + length past.memory.tools) ∙ ap (λ (ts : List (List ℕ)). length S.names + length ts) tools ∙ omega arith

    v : payload statuses ≡ 0
    v = status_weight (told S past)

    w : payload (past.journal ++ Entered ServicesCreated ∷ []) ≡ payload past.journal
    w = sum_by-append payload_in past.journal (Entered ServicesCreated ∷ []) ∙ omega arith

made_small : (S : Setup) → length S.services ≤ 64 → length S.names ≤ 32 → (length (making S).journal < 500000) × (payload (making S).journal < 33554432)
made_small S services few = (
  subst (λ (p : Past). length p.journal < 500000) (sym (making_is S)) (omega (arith, both.0, n, l, u, few)),
  subst (λ (p : Past). payload p.journal < 33554432) (sym (making_is S)) (omega (arith, both.1, w)),
)
  where
    first : Past
    first = told_first S

    both : (length (enter_only S ServicesCreated 0 first).journal ≤ length first.journal + (length S.names + 2)) × (payload (enter_only S ServicesCreated 0 first).journal ≡ payload first.journal)
    both = first_entry S first refl

    n : length first.journal ≤ 66 * length (peers S)
    n = greetings_length (introduction S) (peers S) (introduction_length S services)

    l : length (peers S) ≤ length (range_with_len 0 (length S.names))
    l = filter_shorter (λ p. not (p == S.number)) (range_with_len 0 (length S.names))

    u : length (range_with_len 0 (length S.names)) ≡ length S.names
    u = length-range_with_len 0 (length S.names)

    w : payload first.journal ≡ 0
    w = greetings_weight (introduction S) (peers S) (greeting_weight S)

-- ## The participant

pub made_sound : (S : Setup) (k : Kept) → length S.services ≤ 64 → length S.names ≤ 32 → k.past ≡ making S →
    length k.out ≡ length k.setup.names + length k.past.memory.tools → ((q : ℕ) → slice_index_or k.out q 0 ≤ length (put k.past.journal q)) → IsSound (record { kept = k; poisoned = false })
made_sound S k services names p all within = record {
  all = all;
  within = within;
  short = λ f edge. subst (λ (x : Past). length x.journal < 500000) (sym p) (made_small S services names).0;
  light = λ f edge. subst (λ (x : Past). payload x.journal < 33554432) (sym p) (made_small S services names).1;
}

pub made_lawful : (S : Setup) (past : Past) → past ≡ making S → Lawful S past []
made_lawful S past p = subst (λ (x : Past). Lawful S x []) (sym p) starts
