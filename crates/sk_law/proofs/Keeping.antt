-- What one more entry asks of what is kept of services.
use Rattle.std.specs.Prelude.{◌≡◌, refl, ℕ, zero, suc, ◌+◌, ◌<◌, ◌≤◌, ◌^◌, ◌==◌, nat_le, Bool, true, false, not, ◌&&◌, ◌||◌, List, [], ◌∷◌, ◌++◌, length, filter, Option, Some, None, IsTrue, IfSome, slice_get, cond, if◌then◌else◌}
use Rattle.std.specs.List.{list_any, range_with_len}
use Rattle.std.proofs.Common.{ap, ap₂, sym, ◌∙◌, subst, arith, length-append, ⊎_elim}
use Rattle.std.proofs.lemmas.Bool.{and_parts, cases_eq, eqb-true, eq-eqb, ne_eqb}
use Rattle.std.proofs.lemmas.Bool.Decides.{nat_tests}
use Rattle.std.proofs.lemmas.List.Elements.{filter_map-append}
use Rattle.std.proofs.lemmas.List.Sums.{count_by-le-length}
use Rattle.sk_msg.specs.declared.bus.LinResponse.{LinResponse}
use Rattle.sk_msg.specs.declared.content.Content.{Content}
use Rattle.sk_msg.specs.declared.content.Content.TheVariants as contents
use Rattle.sk_msg.specs.declared.entry.Entry.{Entry}
use Rattle.sk_msg.specs.declared.entry.Entry.TheVariants.{Got, Put, Hand, State as Entered, System as Judged, Begin, Done, End, Ask, Gone, Stray, Did, Fault}
use Rattle.sk_msg.specs.declared.service.Service.{Service}
use Rattle.sk_msg.specs.Matching.{match_services}
use Rattle.sk_msg.specs.Rules.{is_message, is_service_id}
use Rattle.sk_pubsub.specs.Announcing.{Announcing, announced_by, are_numbered, has_match, receivers_of, refusal}
use Rattle.sk_pubsub.specs.declared.add_refused.AddRefused.TheVariants.{Full, OutOfOrder}
use Rattle.sk_system.specs.View.{View}
use Rattle.sk_law.specs.declared.line.Line.{Line}
use Rattle.sk_law.specs.declared.memory.Begun.{Begun}
use Rattle.sk_law.specs.declared.memory.ServiceState.{ServiceState}
use Rattle.sk_law.specs.declared.setup.Setup.{Setup}
use Rattle.sk_law.specs.declared.tally.Tally.{Tally}
use Rattle.sk_law.specs.Counted.{are_calls, calls_made}
use Rattle.sk_law.specs.Growing.{GoesByEntries}
use Rattle.sk_law.specs.Links.{Taken, of_peer, is_in_order, may_say_as, from}
use Rattle.sk_law.specs.Order.{may_say, said_of, service_in, services_of}
use Rattle.sk_law.specs.Outcomes.{has_server}
use Rattle.sk_law.specs.Past.{Past}
use Rattle.sk_law.specs.Readings.{open_step, open_after, is_gone, is_begin, next_number}
use Rattle.sk_law.specs.Receivers.{noted, takers}
use Rattle.sk_law.specs.Serving.{all_noted, serves, some_serve, takers_in, IsNext, IsIndexed}
use Rattle.sk_law.specs.Tied.{IsPlain, Served, AllTied, seen_in, taken_in}
use Rattle.sk_law.proofs.Gots.{may_from, note, of_same, of_other}
use Rattle.sk_law.proofs.Readers.{any_ext}
use Rattle.sk_law.proofs.Serving.{are_at, calls_at, noted-all, takers-are}
use Rattle.sk_law.proofs.Ties.{orderly, taken_by, taken-add}

-- ## Marks

-- a step that is begun has a number that a mark may be
abbrev pub MayMark : Entry → Type 0
MayMark (Begin n t) = n ≤ 2 ^ 63
MayMark _ = Unit {0}

abbrev IsMarked : Option Begun → Type 0
IsMarked o = IfSome o (λ step. step.number ≤ 2 ^ 63)

still-marked : (o : Option Begun) (e : Entry) → MayMark e → IsMarked o → IsMarked (open_after o e)
still-marked o (Begin k t) may h = may
still-marked o (End k) may h = tt
still-marked o (Got q m) may h = h
still-marked o (Put q m) may h = h
still-marked o (Hand q k r) may h = h
still-marked o (Entered to) may h = h
still-marked o (Judged to) may h = h
still-marked o (Done k) may h = h
still-marked o (Ask c v) may h = h
still-marked o (Gone q r) may h = h
still-marked o (Stray k) may h = h
still-marked o (Did i c m) may h = h
still-marked o (Fault k) may h = h

-- ## One entry more

pub served-add : {S : Setup} {tools : List (List ℕ)} {services : List ServiceState} {es : List Entry} {index : Announcing}
    (law : GoesByEntries) (e : Entry) (services' : List ServiceState) (index' : Announcing) (all : List Entry) (t : List Taken) →
    Served S tools services es index → all ≡ es ++ e ∷ [] → MayMark e →
    t ≡ taken_by (orderly S tools (seen_in S tools es) e) e (taken_in S tools es) →
    index'.own ≡ index.own → ((p : ℕ) → announced_by index' p ≡ services_of (of_peer p t)) → ((s : ℕ) → calls_at services' s ≤ length es + 1) →
    ((s : ℕ) → are_at services' s ≡ true) → Served S tools services' all index'
served-add {S} {tools} {services} {es} law e services' index' all t h made may took own announced counted called =
    subst (λ x. Served S tools services' x index') (sym made) (record {
      own_is = own ∙ h.own_is;
      announced = λ p. announced p ∙ ap (λ x. services_of (of_peer p x)) (took ∙ sym (taken-add S tools es e));
      counted = λ s. subst (λ n. calls_at services' s ≤ n) (sym (length-append es (e ∷ []))) (counted s);
      called = called;
      marked = subst IsMarked (sym (law.step es e)) (still-marked (open_step es) e may h.marked);
    })

-- one on which no message hangs
pub served-plain : {S : Setup} {tools : List (List ℕ)} {services : List ServiceState} {es : List Entry} {index : Announcing}
    (law : GoesByEntries) (e : Entry) (all : List Entry) →
    Served S tools services es index → all ≡ es ++ e ∷ [] → MayMark e → ((b : Bool) (t : List Taken) → taken_by b e t ≡ t) →
    Served S tools services all index
served-plain {S} {tools} {services} {es} {index} law e all h made may took =
    served-add law e services index all (taken_in S tools es) h made may (sym (took (orderly S tools (seen_in S tools es) e) (taken_in S tools es))) refl
    h.announced (λ s. let le = h.counted s in omega arith) h.called

pub served-other : {S : Setup} {tools : List (List ℕ)} {services : List ServiceState} {es : List Entry} {index : Announcing}
    (law : GoesByEntries) (e : Entry) (all : List Entry) → IsPlain e → Served S tools services es index → all ≡ es ++ e ∷ [] → Served S tools services all index
served-other law (Hand p k r) all plain h made = served-plain law _ all h made tt (λ b t. refl)
served-other law (Ask c v) all plain h made = served-plain law _ all h made tt (λ b t. refl)
served-other law (Stray n) all plain h made = served-plain law _ all h made tt (λ b t. refl)
served-other law (Did s c m) all plain h made = served-plain law _ all h made tt (λ b t. refl)
served-other law (Fault n) all plain h made = served-plain law _ all h made tt (λ b t. refl)
served-other law (Got p m) all plain h made = absurd plain
served-other law (Put p m) all plain h made = absurd plain
served-other law (Gone p m) all plain h made = absurd plain
served-other law (Entered s) all plain h made = absurd plain
served-other law (Judged s) all plain h made = absurd plain
served-other law (Begin n t) all plain h made = absurd plain
served-other law (Done n) all plain h made = absurd plain
served-other law (End n) all plain h made = absurd plain

-- an answer, with the service at another state
pub served-did : {S : Setup} {tools : List (List ℕ)} {services : List ServiceState} {es : List Entry} {index : Announcing}
    (law : GoesByEntries) (e : Entry) (services' : List ServiceState) (all : List Entry) →
    Served S tools services es index → all ≡ es ++ e ∷ [] → MayMark e → ((b : Bool) (t : List Taken) → taken_by b e t ≡ t) →
    ((s : ℕ) → calls_at services' s ≤ length es + 1) → ((s : ℕ) → are_at services' s ≡ true) →
    Served S tools services' all index
served-did {S} {tools} {services} {es} {index} law e services' all h made may took counted called =
    served-add law e services' index all (taken_in S tools es) h made may (sym (took (orderly S tools (seen_in S tools es) e) (taken_in S tools es))) refl
    h.announced counted called

-- the services at other states
pub served-at : {S : Setup} {tools : List (List ℕ)} {services : List ServiceState} {es : List Entry} {index : Announcing} (services' : List ServiceState) →
    Served S tools services es index → ((s : ℕ) → calls_at services' s ≤ length es) → ((s : ℕ) → are_at services' s ≡ true) →
    Served S tools services' es index
served-at services' h counted called = record { own_is = h.own_is; announced = h.announced; counted = counted; called = called; marked = h.marked }

-- which have made as many calls
pub served-as : {S : Setup} {tools : List (List ℕ)} {services : List ServiceState} {es : List Entry} {index : Announcing} (services' : List ServiceState) →
    Served S tools services es index → ((s : ℕ) → calls_at services' s ≡ calls_at services s) → ((s : ℕ) → are_at services' s ≡ true) →
    Served S tools services' es index
served-as {es = es} services' h same called = served-at services' h (λ s. subst (λ n. n ≤ length es) (sym (same s)) (h.counted s)) called

-- ## A message is got

pub served-got : {S : Setup} {tools : List (List ℕ)} {services : List ServiceState} {es : List Entry} {index : Announcing}
    (law : GoesByEntries) (b : Bool) (q : ℕ) (m : Content) (index' : Announcing) (all : List Entry) →
    Served S tools services es index → all ≡ es ++ Got q m ∷ [] → b ≡ is_in_order S tools (seen_in S tools es) q m → IsIndexed b q m index index' →
    Served S tools services all index'
served-got {S} {tools} {services} {es} {index} law b q m index' all h made comes noted =
    served-add law (Got q m) services index' all (taken_by b (Got q m) (taken_in S tools es)) h made tt (ap (λ c. taken_by c (Got q m) (taken_in S tools es)) comes)
    noted.own (λ p. on b noted p) (λ s. let le = h.counted s in omega arith) h.called
  where
    t : List Taken
    t = taken_in S tools es

    on : (c : Bool) → IsIndexed c q m index index' → (p : ℕ) → announced_by index' p ≡ services_of (of_peer p (taken_by c (Got q m) t))
    on false i p = i.rest p refl ∙ h.announced p
    on true i p = ⊎_elim
        (λ (same : q ≡ p). subst (λ r. announced_by index' r ≡ services_of (of_peer r (t ++ note q m ∷ []))) same
        (i.last refl ∙ ap (λ xs. xs ++ services_of (m ∷ [])) (h.announced q)
        ∙ sym (ap services_of (of_same q m t) ∙ filter_map-append service_in (of_peer q t) (m ∷ []))))
        (λ (ne : q ≡ p → ⊥). i.rest p (ne_eqb p q (λ e. ne (sym e))) ∙ h.announced p ∙ sym (ap services_of (of_other q p m t ne)))
        (cases_eq q p)

-- ## A service that comes in order is the next one

next-of : (o : Option (List ℕ)) (tool : Bool) (ms : List Content) (s : Service) → may_say_as o tool ms (contents.ServiceAdd s) ≡ true → s.id ≡ length (services_of ms)
unfolding may_say
next-of None tool ms s e = absurd (let no : false ≡ true = e in cc)
next-of (Some name) tool ms s e = on (said_of ms).hello tool e
  where
    on : (hello tool : Bool) → (if hello then not (said_of ms).left && (if tool then false else (not (said_of ms).ended && s.id == length (services_of ms))) else false) ≡ true → s.id ≡ length (services_of ms)
    on false tool f = absurd (let no : false ≡ true = f in cc)
    on true true f = absurd (let no : false ≡ true = (and_parts (not (said_of ms).left) false f).1 in cc)
    on true false f = eqb-true s.id (length (services_of ms)) (and_parts (not (said_of ms).ended) (s.id == length (services_of ms)) (and_parts (not (said_of ms).left) _ f).1).1

-- it is one of 64
small-id : (s : Service) → IsTrue (is_message (contents.ServiceAdd s)) → s.id ≤ 63
unfolding is_message is_service_id
small-id s rules = let le : nat_le s.id 63 ≡ true = (and_parts (nat_le s.id 63) _ (and_parts (not s.history) _ rules).1).0 in grind (arith, nat_tests)

not-refused : (announced : List Service) (s : Service) → s.id ≡ length announced → s.id ≤ 63 → refusal announced s ≡ None
not-refused announced s e le =
    ap₂ (λ (a b : Bool). if a then Some Full else (if not b then Some (OutOfOrder (length announced)) else None))
    (let few : length announced ≤ 63 = subst (λ n. n ≤ 63) e le in let no : nat_le 64 (length announced) ≡ false = grind (arith, nat_tests) in no)
    (eq-eqb s.id (length announced) e)

pub next-is : {S : Setup} {tools : List (List ℕ)} {services : List ServiceState} {es : List Entry} {index : Announcing} (q : ℕ) (m : Content) →
    Served S tools services es index → IsTrue (is_message m) → is_in_order S tools (seen_in S tools es) q m ≡ true → IsNext index q m
next-is {S} {tools} {es = es} {index} q (contents.ServiceAdd s) h rules orderly service is =
    let same : s ≡ service = cc in
    subst (λ r. refusal (announced_by index q) r ≡ None) same
    (not-refused (announced_by index q) s
    (next-of _ _ (of_peer q (taken_in S tools es)) s (may_from S tools (seen_in S tools es) q (contents.ServiceAdd s) orderly) ∙ ap length (sym (h.announced q)))
    (small-id s rules))
next-is q (contents.Hello name role address) h rules orderly service is = absurd (let no : None ≡ Some service = is in cc)
next-is q contents.Leave h rules orderly service is = absurd (let no : None ≡ Some service = is in cc)
next-is q (contents.NextStep time duration) h rules orderly service is = absurd (let no : None ≡ Some service = is in cc)
next-is q contents.ServicesEnd h rules orderly service is = absurd (let no : None ≡ Some service = is in cc)
next-is q (contents.Status state until) h rules orderly service is = absurd (let no : None ≡ Some service = is in cc)
next-is q (contents.Workflow names) h rules orderly service is = absurd (let no : None ≡ Some service = is in cc)
next-is q contents.Abort h rules orderly service is = absurd (let no : None ≡ Some service = is in cc)
next-is q (contents.Can x y) h rules orderly service is = absurd (let no : None ≡ Some service = is in cc)
next-is q (contents.Eth x y) h rules orderly service is = absurd (let no : None ≡ Some service = is in cc)
next-is q (contents.Lin x y) h rules orderly service is = absurd (let no : None ≡ Some service = is in cc)
next-is q (contents.LinResponse x y) h rules orderly service is = absurd (let no : None ≡ Some service = is in cc)
next-is q (contents.Publish x y) h rules orderly service is = absurd (let no : None ≡ Some service = is in cc)
next-is q (contents.Call x y z) h rules orderly service is = absurd (let no : None ≡ Some service = is in cc)
next-is q (contents.Reply w x y z) h rules orderly service is = absurd (let no : None ≡ Some service = is in cc)
next-is q (contents.Refuse reason) h rules orderly service is = absurd (let no : None ≡ Some service = is in cc)

-- ## Who serves a client

any_of_them : (test f : ℕ → Bool) (xs : List ℕ) → list_any (λ p. test p && f p) xs ≡ list_any f (filter test xs)
any_of_them test f [] = refl
any_of_them test f (x ∷ xs) = on (test x) (any_of_them test f xs)
  where
    on : (b : Bool) → list_any (λ p. test p && f p) xs ≡ list_any f (filter test xs) →
        ((b && f x) || list_any (λ p. test p && f p) xs) ≡ list_any f (cond b (x ∷ filter test xs) (filter test xs))
    on true e = ap (λ b. f x || b) e
    on false e = e

pub server-is : {S : Setup} (past : Past) {services : List ServiceState} {out : List ℕ} {tally : Tally} {lines : List Line} {index : Announcing} {view : View} {awaited : Option Bool} {limit : ℕ} (service : ℕ) (own : Service) →
    AllTied S past.memory.tools services out past.journal tally lines index view awaited limit → slice_get S.services service ≡ Some own →
    some_serve lines index S.number service (length S.names) ≡ has_server S past own
server-is {S} past {lines = lines} {index} service own h e =
    any_ext (serves lines index S.number service) (λ p. (not (p == S.number) && not (is_gone past.journal p)) && list_any (match_services own) (services_of (from S past p))) 0 (length S.names)
    (λ p le lt. ap₂ (λ (l : Line) (b : Bool). (not (p == S.number) && not l.gone) && b) (h.tied.line p (omega arith))
    (ap₂ has_match (h.served.announced p) (ap (λ o. slice_get o service) h.served.own_is ∙ e)))
    ∙ any_of_them (λ p. not (p == S.number) && not (is_gone past.journal p)) (λ p. list_any (match_services own) (services_of (from S past p))) (range_with_len 0 (length S.names))

-- ## How many steps were begun

pub few-begun : (es : List Entry) (n : ℕ) → length es < n → next_number es ≤ n
few-begun es n lt = let le = count_by-le-length is_begin es in omega arith

-- ## Of the services of a journal

-- what an own service is at has made so few calls
pub counted-found : (n : ℕ) (i : ℕ) (xs : List ServiceState) → ((s : ℕ) → calls_at xs s ≤ n) → IfSome (slice_get xs i) (λ at. calls_made at ≤ n)
counted-found n i [] h = tt
counted-found n zero (x ∷ xs) h = h zero
counted-found n (suc i) (x ∷ xs) h = counted-found n i xs (λ s. h (suc s))

pub called-found : (i : ℕ) (xs : List ServiceState) → ((s : ℕ) → are_at xs s ≡ true) → IfSome (slice_get xs i) (λ at. IsTrue (are_calls at))
called-found i [] h = tt
called-found zero (x ∷ xs) h = h zero
called-found (suc i) (x ∷ xs) h = called-found i xs (λ s. h (suc s))

pub few-found : (n limit : ℕ) (i : ℕ) (xs : List ServiceState) → n < limit → ((s : ℕ) → calls_at xs s ≤ n) → IfSome (slice_get xs i) (λ at. calls_made at < limit)
few-found n limit i [] lt h = tt
few-found n limit zero (x ∷ xs) lt h = let le = h zero in omega arith
few-found n limit (suc i) (x ∷ xs) lt h = few-found n limit i xs lt (λ s. h (suc s))

pub takers-is : {S : Setup} (past : Past) {index : Announcing} (p service : ℕ) (m : Content) → Served S past.memory.tools past.memory.services past.journal index →
    takers_in m past.memory.services (receivers_of index.own (slice_get (announced_by index p) service)) ≡ takers S past m (slice_get (services_of (from S past p)) service)
takers-is {S} past p service m h =
    ap₂ (λ own announced. takers_in m past.memory.services (receivers_of own (slice_get announced service))) h.own_is (h.announced p)
    ∙ on (slice_get (services_of (from S past p)) service)
  where
    on : (o : Option Service) → takers_in m past.memory.services (receivers_of S.services o) ≡ takers S past m o
    on None = refl
    on (Some other) = takers-are m past.memory.services S.services other

pub noted-is : {S : Setup} (past : Past) {index : Announcing} (p service : ℕ) (response : LinResponse) → Served S past.memory.tools past.memory.services past.journal index → IsTrue (are_numbered 0 index.own) →
    all_noted p service response (receivers_of index.own (slice_get (announced_by index p) service)) past.memory.services
    ≡ noted (slice_get (services_of (from S past p)) service) p service response S.services past.memory.services
noted-is {S} past {index} p service response h numbered =
    noted-all p service response index.own (slice_get (announced_by index p) service) past.memory.services numbered
    ∙ ap₂ (λ own announced. noted (slice_get announced service) p service response own past.memory.services) h.own_is (h.announced p)
