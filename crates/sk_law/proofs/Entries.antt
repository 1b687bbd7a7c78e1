-- One entry more, and what each reading makes of it.
use Rattle.std.specs.Prelude.{◌≡◌, refl, ℕ, ◌+◌, cond, ◌==◌, nat_lt, length, Bool, true, false, ◌||◌, List, [], ◌∷◌, ◌++◌, Option, Some, None, if◌then◌else◌}
use Rattle.std.specs.List.{filter_map, cons_option, list_any, last_or, count_by, sum_by}
use Rattle.std.specs.Option.{option_or}
use Rattle.std.proofs.lemmas.Bool.Decides.{nat_tests}
use Rattle.std.proofs.lemmas.List.Folds.{list_any-append}
use Rattle.std.proofs.lemmas.List.Sums.{fold-append, sum_by-append}
use Rattle.std.proofs.lemmas.List.Elements.{filter_map-append}
use Rattle.std.proofs.Common.{ap, sym, ◌∙◌, append_assoc, append-nil, arith}
use Rattle.sk_msg.specs.declared.content.Content.{Content}
use Rattle.sk_msg.specs.declared.content.Content.TheVariants as contents
use Rattle.sk_msg.specs.declared.entry.Entry.{Entry}
use Rattle.sk_msg.specs.declared.entry.Entry.TheVariants.{Got, Put, Hand, State as Entered, System as Judged, Begin, Done, End, Ask, Gone, Stray, Did, Fault}
use Rattle.sk_msg.specs.declared.service.Service.{Service}
use Rattle.sk_msg.specs.declared.state.State.{State}
use Rattle.sk_law.specs.declared.said.Said.{Said}
use Rattle.sk_law.specs.Order.{is_hello, is_services_end, is_leave, says_synchronised, says_coordinated, service_in, time_in, state_in, said_of, said_after}
use Rattle.sk_law.specs.Links.{seen_after, unseen}
use Rattle.sk_law.specs.Readings.{state_of, state_after, system_after, has_run, is_running_entry, begun_after, open_after, is_begin, next_number, payload, payload_in, is_ready_done, has_completed_ready, step_awaited_after, got, got_from, put, put_to, is_gone, is_gone_entry, gone_of, gones}
use Rattle.sk_law.specs.Told.{gather, heard_by, notices_by}
use Rattle.sk_law.specs.Script.{view_by}
use Rattle.sk_law.specs.Growing.{GoesByEntries, run_after, completed_after, number_after, got_after, put_after, gone_after, gones_after}

or_no : (b : Bool) → (b || false) ≡ b
or_no true = refl
or_no false = refl

or_yes : (b : Bool) → (b || true) ≡ true
or_yes true = refl
or_yes false = refl

-- ## Readings

run : (before : Bool) (e : Entry) → (before || list_any is_running_entry (e ∷ [])) ≡ run_after before e
run b (Entered to) = ap (λ x. b || x) (or_no (is_running_entry (Entered to)))
run b (Got p m) = or_no b
run b (Put q m) = or_no b
run b (Hand p k r) = or_no b
run b (Judged x) = or_no b
run b (Begin n t) = or_no b
run b (Done n) = or_no b
run b (End n) = or_no b
run b (Ask c v) = or_no b
run b (Gone q r) = or_no b
run b (Stray n) = or_no b
run b (Did s c m) = or_no b
run b (Fault n) = or_no b

completed : (before : Bool) (e : Entry) → (before || list_any is_ready_done (e ∷ [])) ≡ completed_after before e
completed b (Done n) = ap (λ x. b || x) (or_no (n == 0))
completed b (Got p m) = or_no b
completed b (Put q m) = or_no b
completed b (Hand p k r) = or_no b
completed b (Entered to) = or_no b
completed b (Judged x) = or_no b
completed b (Begin n t) = or_no b
completed b (End n) = or_no b
completed b (Ask c v) = or_no b
completed b (Gone q r) = or_no b
completed b (Stray n) = or_no b
completed b (Did s c m) = or_no b
completed b (Fault n) = or_no b

gone : (p : ℕ) (before : Bool) (e : Entry) → (before || list_any (is_gone_entry p) (e ∷ [])) ≡ gone_after p before e
gone p b (Gone q r) = ap (λ x. b || x) (or_no (q == p))
gone p b (Got q m) = or_no b
gone p b (Put q m) = or_no b
gone p b (Hand q k r) = or_no b
gone p b (Entered to) = or_no b
gone p b (Judged x) = or_no b
gone p b (Begin n t) = or_no b
gone p b (Done n) = or_no b
gone p b (End n) = or_no b
gone p b (Ask c v) = or_no b
gone p b (Stray n) = or_no b
gone p b (Did s c m) = or_no b
gone p b (Fault n) = or_no b

kept : (c : Bool) (ms : List Content) (m : Content) → ms ++ cons_option (if c then Some m else None) [] ≡ (if c then ms ++ m ∷ [] else ms)
kept true ms m = refl
kept false ms m = append-nil ms

got_more : (p : ℕ) (ms : List Content) (e : Entry) → ms ++ filter_map (got_from p) (e ∷ []) ≡ got_after p ms e
got_more p ms (Got q m) = kept (q == p) ms m
got_more p ms (Put q m) = append-nil ms
got_more p ms (Hand q k r) = append-nil ms
got_more p ms (Entered to) = append-nil ms
got_more p ms (Judged x) = append-nil ms
got_more p ms (Begin n t) = append-nil ms
got_more p ms (Done n) = append-nil ms
got_more p ms (End n) = append-nil ms
got_more p ms (Ask c v) = append-nil ms
got_more p ms (Gone q r) = append-nil ms
got_more p ms (Stray n) = append-nil ms
got_more p ms (Did s c m) = append-nil ms
got_more p ms (Fault n) = append-nil ms

put_more : (p : ℕ) (ms : List Content) (e : Entry) → ms ++ filter_map (put_to p) (e ∷ []) ≡ put_after p ms e
put_more p ms (Put q m) = kept (q == p) ms m
put_more p ms (Got q m) = append-nil ms
put_more p ms (Hand q k r) = append-nil ms
put_more p ms (Entered to) = append-nil ms
put_more p ms (Judged x) = append-nil ms
put_more p ms (Begin n t) = append-nil ms
put_more p ms (Done n) = append-nil ms
put_more p ms (End n) = append-nil ms
put_more p ms (Ask c v) = append-nil ms
put_more p ms (Gone q r) = append-nil ms
put_more p ms (Stray n) = append-nil ms
put_more p ms (Did s c m) = append-nil ms
put_more p ms (Fault n) = append-nil ms

kept_reason : (c : Bool) (xs : List ℕ) (reason : ℕ) → xs ++ cons_option (if c then Some reason else None) [] ≡ (if c then xs ++ reason ∷ [] else xs)
kept_reason true xs reason = refl
kept_reason false xs reason = append-nil xs

gones_more : (p : ℕ) (xs : List ℕ) (e : Entry) → xs ++ filter_map (gone_of p) (e ∷ []) ≡ gones_after p xs e
gones_more p xs (Gone q r) = kept_reason (q == p) xs r
gones_more p xs (Got q m) = append-nil xs
gones_more p xs (Put q m) = append-nil xs
gones_more p xs (Hand q k r) = append-nil xs
gones_more p xs (Entered to) = append-nil xs
gones_more p xs (Judged x) = append-nil xs
gones_more p xs (Begin n t) = append-nil xs
gones_more p xs (Done n) = append-nil xs
gones_more p xs (End n) = append-nil xs
gones_more p xs (Ask c v) = append-nil xs
gones_more p xs (Stray n) = append-nil xs
gones_more p xs (Did s c m) = append-nil xs
gones_more p xs (Fault n) = append-nil xs

reasoned : (c gone : Bool) (reason : ℕ) (xs : List ℕ) → gone ≡ nat_lt 0 (length xs) → (c || gone) ≡ nat_lt 0 (length (cons_option (if c then Some reason else None) xs))
reasoned true gone reason xs h = let r : nat_lt 0 (length (reason ∷ xs)) ≡ true = grind (arith, nat_tests) in sym r
reasoned false gone reason xs h = h

gone_where : (p : ℕ) (es : List Entry) → is_gone es p ≡ nat_lt 0 (length (gones es p))
gone_where p [] = refl
gone_where p (Gone q r ∷ es) = reasoned (q == p) (is_gone es p) r (gones es p) (gone_where p es)
gone_where p (Got q m ∷ es) = gone_where p es
gone_where p (Put q m ∷ es) = gone_where p es
gone_where p (Hand q k r ∷ es) = gone_where p es
gone_where p (Entered to ∷ es) = gone_where p es
gone_where p (Judged x ∷ es) = gone_where p es
gone_where p (Begin n t ∷ es) = gone_where p es
gone_where p (Done n ∷ es) = gone_where p es
gone_where p (End n ∷ es) = gone_where p es
gone_where p (Ask c v ∷ es) = gone_where p es
gone_where p (Stray n ∷ es) = gone_where p es
gone_where p (Did s c m ∷ es) = gone_where p es
gone_where p (Fault n ∷ es) = gone_where p es

number : (n : ℕ) (e : Entry) → (n + cond (is_begin e) 1 0) + 1 ≡ number_after (n + 1) e
number n (Begin i t) = omega arith
number n (Got p m) = omega arith
number n (Put q m) = omega arith
number n (Hand q k r) = omega arith
number n (Entered to) = omega arith
number n (Judged x) = omega arith
number n (Done i) = omega arith
number n (End i) = omega arith
number n (Ask c v) = omega arith
number n (Gone q r) = omega arith
number n (Stray i) = omega arith
number n (Did s c m) = omega arith
number n (Fault i) = omega arith

next_more : (es : List Entry) (e : Entry) → next_number (es ++ e ∷ []) ≡ number_after (next_number es) e
next_more es e = ap (λ n. n + 1) (fold-append (λ (a : ℕ) (x : Entry). a + cond (is_begin x) 1 0) 0 es (e ∷ [])) ∙ number (count_by is_begin es) e

-- ## What was said

any_add : (test : Content → Bool) (ms : List Content) (m : Content) → list_any test (ms ++ m ∷ []) ≡ (list_any test ms || test m)
any_add test ms m = list_any-append test ms (m ∷ []) ∙ ap (λ b. list_any test ms || b) (or_no (test m))

last_add : {X : Type 0} (o : Option X) (f : Content → Option X) (ms : List Content) (m : Content) → last_or o (filter_map f (ms ++ m ∷ [])) ≡ option_or (f m) (last_or o (filter_map f ms))
last_add {X} o f [] m = one (f m)
  where
    one : (x : Option X) → last_or o (cons_option x []) ≡ option_or x o
    one None = refl
    one (Some x) = refl
last_add {X} o f (y ∷ ms) m = by (f y) (λ p. last_add p f ms m)
  where
    by : (x : Option X) → ((p : Option X) → last_or p (filter_map f (ms ++ m ∷ [])) ≡ option_or (f m) (last_or p (filter_map f ms))) →
        last_or o (cons_option x (filter_map f (ms ++ m ∷ []))) ≡ option_or (f m) (last_or o (cons_option x (filter_map f ms)))
    by None h = h o
    by (Some x) h = h (Some x)

abbrev with_fields : Bool → Bool → Bool → List Service → Bool → Option ℕ → Option State → Bool → Said
with_fields hello coordinated synchronised services ended announced status left = record {
  hello = hello;
  coordinated = coordinated;
  synchronised = synchronised;
  services = services;
  ended = ended;
  announced = announced;
  status = status;
  left = left;
}

same_fields : {a a' b b' c c' : Bool} {d d' : List Service} {e e' : Bool} {f f' : Option ℕ} {g g' : Option State} {h h' : Bool} →
    a ≡ a' → b ≡ b' → c ≡ c' → d ≡ d' → e ≡ e' → f ≡ f' → g ≡ g' → h ≡ h' → with_fields a b c d e f g h ≡ with_fields a' b' c' d' e' f' g' h'
same_fields {a} {a'} {b} {b'} {c} {c'} {d} {d'} {e} {e'} {f} {f'} {g} {g'} {h} {h'} p q r s t u v w =
    ap (λ x. with_fields x b c d e f g h) p ∙ ap (λ x. with_fields a' x c d e f g h) q ∙ ap (λ x. with_fields a' b' x d e f g h) r
    ∙ ap (λ x. with_fields a' b' c' x e f g h) s ∙ ap (λ x. with_fields a' b' c' d' x f g h) t ∙ ap (λ x. with_fields a' b' c' d' e' x g h) u
    ∙ ap (λ x. with_fields a' b' c' d' e' f' x h) v ∙ ap (λ x. with_fields a' b' c' d' e' f' g' x) w

abbrev longer : Said → Content → Said
longer s m = with_fields (s.hello || is_hello m) (s.coordinated || says_coordinated m) (s.synchronised || says_synchronised m) (s.services ++ cons_option (service_in m) [])
    (s.ended || is_services_end m) (option_or (time_in m) s.announced) (option_or (state_in m) s.status) (s.left || is_leave m)

said_longer : (ms : List Content) (m : Content) → said_of (ms ++ m ∷ []) ≡ longer (said_of ms) m
said_longer ms m = same_fields (any_add is_hello ms m) (any_add says_coordinated ms m) (any_add says_synchronised ms m) (filter_map-append service_in ms (m ∷ []))
    (any_add is_services_end ms m) (last_add None time_in ms m) (last_add None state_in ms m) (any_add is_leave ms m)

longer_is : (s : Said) (m : Content) → longer s m ≡ said_after s m
longer_is s (contents.Hello name role address) = same_fields (or_yes s.hello) refl refl (append-nil s.services) (or_no s.ended) refl refl (or_no s.left)
longer_is s (contents.Leave) = same_fields (or_no s.hello) (or_no s.coordinated) (or_no s.synchronised) (append-nil s.services) (or_no s.ended) refl refl (or_yes s.left)
longer_is s (contents.NextStep at size) = same_fields (or_no s.hello) (or_no s.coordinated) (or_no s.synchronised) (append-nil s.services) (or_no s.ended) refl refl (or_no s.left)
longer_is s (contents.ServiceAdd service) = same_fields (or_no s.hello) (or_no s.coordinated) (or_no s.synchronised) refl (or_no s.ended) refl refl (or_no s.left)
longer_is s (contents.ServicesEnd) = same_fields (or_no s.hello) (or_no s.coordinated) (or_no s.synchronised) (append-nil s.services) (or_yes s.ended) refl refl (or_no s.left)
longer_is s (contents.Status state until) = same_fields (or_no s.hello) (or_no s.coordinated) (or_no s.synchronised) (append-nil s.services) (or_no s.ended) refl refl (or_no s.left)
longer_is s (contents.Workflow required) = same_fields (or_no s.hello) (or_no s.coordinated) (or_no s.synchronised) (append-nil s.services) (or_no s.ended) refl refl (or_no s.left)
longer_is s (contents.Abort) = same_fields (or_no s.hello) (or_no s.coordinated) (or_no s.synchronised) (append-nil s.services) (or_no s.ended) refl refl (or_no s.left)
longer_is s (contents.Can head frame) = same_fields (or_no s.hello) (or_no s.coordinated) (or_no s.synchronised) (append-nil s.services) (or_no s.ended) refl refl (or_no s.left)
longer_is s (contents.Eth head payload) = same_fields (or_no s.hello) (or_no s.coordinated) (or_no s.synchronised) (append-nil s.services) (or_no s.ended) refl refl (or_no s.left)
longer_is s (contents.Lin head frame) = same_fields (or_no s.hello) (or_no s.coordinated) (or_no s.synchronised) (append-nil s.services) (or_no s.ended) refl refl (or_no s.left)
longer_is s (contents.LinResponse head response) = same_fields (or_no s.hello) (or_no s.coordinated) (or_no s.synchronised) (append-nil s.services) (or_no s.ended) refl refl (or_no s.left)
longer_is s (contents.Publish head payload) = same_fields (or_no s.hello) (or_no s.coordinated) (or_no s.synchronised) (append-nil s.services) (or_no s.ended) refl refl (or_no s.left)
longer_is s (contents.Call head call payload) = same_fields (or_no s.hello) (or_no s.coordinated) (or_no s.synchronised) (append-nil s.services) (or_no s.ended) refl refl (or_no s.left)
longer_is s (contents.Reply head client call payload) = same_fields (or_no s.hello) (or_no s.coordinated) (or_no s.synchronised) (append-nil s.services) (or_no s.ended) refl refl (or_no s.left)
longer_is s (contents.Refuse reason) = same_fields (or_no s.hello) (or_no s.coordinated) (or_no s.synchronised) (append-nil s.services) (or_no s.ended) refl refl (or_no s.left)

-- ## What is gathered

pub gather_add : {X : Type 0} (gives : List Entry → Entry → List X) (before es : List Entry) (e : Entry) →
    gather gives before (es ++ e ∷ []) ≡ gather gives before es ++ gives (before ++ es) e
gather_add gives before [] e = append-nil (gives before e) ∙ ap (λ x. gives x e) (sym (append-nil before))
gather_add gives before (first ∷ es) e =
    ap (λ x. gives before first ++ x) (gather_add gives (before ++ first ∷ []) es e ∙ ap (λ x. gather gives (before ++ first ∷ []) es ++ gives x e) (append_assoc before (first ∷ []) es))
    ∙ sym (append_assoc (gives before first) (gather gives (before ++ first ∷ []) es) (gives (before ++ first ∷ es) e))

pub goes_by_entries : GoesByEntries
goes_by_entries = record {
  state = λ es e. fold-append state_after _ es (e ∷ []);
  system = λ es e. fold-append system_after _ es (e ∷ []);
  run = λ es e. list_any-append is_running_entry es (e ∷ []) ∙ run (has_run es) e;
  begun = λ es e. fold-append begun_after _ es (e ∷ []);
  step = λ es e. fold-append open_after _ es (e ∷ []);
  number = next_more;
  payload_is = λ es e. sum_by-append payload_in es (e ∷ []) ∙ (let r : payload es + sum_by payload_in (e ∷ []) ≡ payload es + payload_in e = omega arith in r);
  completed = λ es e. list_any-append is_ready_done es (e ∷ []) ∙ completed (has_completed_ready es) e;
  awaited = λ es e. fold-append step_awaited_after _ es (e ∷ []);
  got_is = λ p es e. filter_map-append (got_from p) es (e ∷ []) ∙ got_more p (got es p) e;
  put_is = λ p es e. filter_map-append (put_to p) es (e ∷ []) ∙ put_more p (put es p) e;
  gone = λ p es e. list_any-append (is_gone_entry p) es (e ∷ []) ∙ gone p (is_gone es p) e;
  gones_are = λ p es e. filter_map-append (gone_of p) es (e ∷ []) ∙ gones_more p (gones es p) e;
  gone_is = gone_where;
  seen_is = λ S past e. fold-append (seen_after S past.memory.tools) unseen past.journal (e ∷ []);
  said = λ ms m. said_longer ms m ∙ longer_is (said_of ms) m;
  heard_is = λ es e. gather_add heard_by [] es e;
  notices_is = λ es e. gather_add (λ before x. notices_by (state_of before) x) [] es e;
  views_is = λ es e. gather_add view_by [] es e;
}
