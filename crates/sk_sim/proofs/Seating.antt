-- Seats that are made over a mesh, one after the other, for the participants of a scenario.
use Rattle.std.proofs.Common.{◌≡◌, ℕ, zero, suc, ◌≤◌, ◌<◌, ◌+◌, ◌^◌, ◌==◌, ◌⊎◌, inl, inr, Bool, true, false, not, ◌&&◌, ◌||◌, List, [], ◌∷◌, ◌++◌, length, map, get_or, refl, sym, ◌∙◌, ap, subst, arith, append_assoc, length-append, Option, Some, None, Result, Ok, Err, IfOk}
use Rattle.std.specs.Prelude.{nat_lt, nat_le, IfSome, IsTrue}
use Rattle.std.specs.List.{slice_get, list_all, list_any, All}
use Rattle.std.specs.Str.{bytes_eq}
use Rattle.std.proofs.lemmas.Bool.{and_parts, leb-true}
use Rattle.std.proofs.lemmas.Bool.Decides.{nat_tests}
use Rattle.std.proofs.lemmas.List.{map-append, length-map}
use Rattle.std.proofs.lemmas.Slice.Eq.{bytes_eq-Decides}
use Rattle.std.proofs.lemmas.Option.{slice_get_read, slice_get_within, slice_get-get_or, same_Some, none-some}
use Rattle.sk_base.specs.Ranges.{is_name}
use Rattle.sk_msg.specs.Each.{each_after}
use Rattle.sk_msg.specs.Rules.{is_new_name, is_step_size}
use Rattle.sk_config.specs.Configs.{is_none_or}
use Rattle.sk_law.specs.declared.setup.Setup.{Setup}
use Rattle.sk_law.specs.World.{is_before as is_before_in_world, are_sorted as are_sorted_in_world}
use Rattle.sk_mesh.specs.Places.{Account, Place, place, size, IsMesh}
use Rattle.sk_mesh.specs.Ends.{IsUnused}
use Rattle.sk_node.specs.declared.app.App as App
use Rattle.sk_rules.specs.Orders.{is_before, are_sorted}
use Rattle.sk_rules.specs.Scripts.{is_action}
use Rattle.sk_rules.specs.Vars.{are_vars}
use Rattle.sk_rules.specs.declared.place.Place.TheVariants.{Ready}
use Rattle.sk_msg.specs.declared.service.Service.{Service}
use Rattle.sk_pubsub.specs.Announcing.{are_numbered}
use Rattle.sk_rules.specs.Places.{is_next_own}
use Rattle.sk_script.specs.Keys.{has_history}
use Rattle.sk_script.specs.Services.{is_spec, is_next_service, are_services}
use Rattle.sk_script.specs.Scenarios.{PartValue, ScenarioValue, scope_of, names_of, is_script, is_part, is_duration, is_participant_count, are_required, is_scenario}
use Rattle.sk_sim.specs.declared.seat.Seat.{Seat}
use Rattle.sk_sim.specs.Wiring.{IsFresh}
use Rattle.sk_sim.specs.Cards.{Card}
use Rattle.sk_sim.specs.Views.{View, view, views, cards, places, IsUnturned}
use Rattle.sk_sim.specs.Runs.{names_in, AreAlike}
use Rattle.sk_sim.specs.Scripts.{Origin, no_lists, setup_by}
use Rattle.sk_sim.specs.Simulations.{IsSeat, AreSeats, AreFresh}
use Rattle.sk_sim.proofs.Lists.{get_back, slice_get-some}

-- ## The order of names

not_before : (xs : List ℕ) → is_before xs xs ≡ false
not_before [] = refl
not_before (x ∷ xs) =
    let a : nat_lt x x ≡ false = grind (arith, nat_tests) in let b : (x == x) ≡ true = grind (arith, nat_tests) in
    ap (λ c. c || ((x == x) && is_before xs xs)) a ∙ ap (λ c. c && is_before xs xs) b ∙ not_before xs

before_differs : (xs ys : List ℕ) → is_before xs ys ≡ true → bytes_eq xs ys ≡ false
before_differs xs ys h = on (bytes_eq xs ys) refl
  where
    on : (b : Bool) → bytes_eq xs ys ≡ b → b ≡ false
    on true e = let same : xs ≡ ys = (bytes_eq-Decides xs ys).0 e in let k = sym h ∙ ap (is_before xs) (sym same) ∙ not_before xs in absurd cc
    on false e = refl

-- a name behind all of these is none of them
new_behind : (before : List (List ℕ)) (name : List ℕ) → list_all (λ other. is_before other name) before ≡ true → list_any (λ other. bytes_eq other name) before ≡ false
new_behind [] name h = refl
new_behind (x ∷ before) name h =
    let b = and_parts (is_before x name) (list_all (λ other. is_before other name) before) h in
    ap (λ c. c || list_any (λ other. bytes_eq other name) before) (before_differs x name b.0) ∙ new_behind before name b.1

all_before : (before : List (List ℕ)) (x name : List ℕ) → list_all (λ other. is_before other name) before ≡ true → is_before x name ≡ true → list_all (λ other. is_before other name) (before ++ x ∷ []) ≡ true
all_before [] x name h first = ap (λ c. c && true) first
all_before (y ∷ before) x name h first =
    let b = and_parts (is_before y name) (list_all (λ other. is_before other name) before) h in
    ap (λ c. c && list_all (λ other. is_before other name) (before ++ x ∷ [])) b.0 ∙ all_before before x name b.1 first

-- each of these names is behind all those
abbrev AreBehind : List (List ℕ) → List (List ℕ) → Type 0
AreBehind before names = (i : ℕ) (name : List ℕ) → slice_get names i ≡ Some name → list_all (λ other. is_before other name) before ≡ true

all_at : {X : Type 0} (test : X → Bool) (xs : List X) (i : ℕ) (x : X) → list_all test xs ≡ true → slice_get xs i ≡ Some x → test x ≡ true
all_at test [] i x h e = absurd (none-some x e)
all_at test (y ∷ xs) zero x h e = ap test (sym (same_Some y x e)) ∙ (and_parts (test y) (list_all test xs) h).0
all_at test (y ∷ xs) (suc i) x h e = all_at test xs i x (and_parts (test y) (list_all test xs) h).1 e

distinct_behind : (before names : List (List ℕ)) → AreBehind before names → are_sorted names ≡ true → each_after is_new_name before names ≡ true
unfolding is_new_name
distinct_behind before [] behind sorted = refl
distinct_behind before (x ∷ names) behind sorted =
    let b = and_parts (list_all (is_before x) names) (are_sorted names) sorted in
    ap (λ c. not c && each_after is_new_name (before ++ x ∷ []) names) (new_behind before x (behind 0 x refl))
    ∙ distinct_behind (before ++ x ∷ []) names (λ i name at. all_before before x name (behind (suc i) name at) (all_at (is_before x) names i name b.0 at)) b.1

same_before : (xs ys : List ℕ) → is_before_in_world xs ys ≡ is_before xs ys
same_before [] [] = refl
same_before [] (y ∷ ys) = refl
same_before (x ∷ xs) [] = refl
same_before (x ∷ xs) (y ∷ ys) = ap (λ b. nat_lt x y || (x == y && b)) (same_before xs ys)

all_same : (x : List ℕ) (names : List (List ℕ)) → list_all (is_before_in_world x) names ≡ list_all (is_before x) names
all_same x [] = refl
all_same x (y ∷ names) =
    ap (λ b. b && list_all (is_before_in_world x) names) (same_before x y) ∙ ap (λ b. is_before x y && b) (all_same x names)

same_sorted : (names : List (List ℕ)) → are_sorted_in_world names ≡ are_sorted names
same_sorted [] = refl
same_sorted (x ∷ names) = ap (λ b. b && are_sorted_in_world names) (all_same x names) ∙ ap (λ b. list_all (is_before x) names && b) (same_sorted names)

-- ## What a scenario keeps

-- the rules of a scenario
pub record Rules (S : ScenarioValue) : Type 0 where
  pub duration : S.duration ≤ 2 ^ 61
  pub least : 1 ≤ length S.participants
  pub most : length S.participants ≤ 32
  pub parts : list_all is_part S.participants ≡ true
  pub sorted : are_sorted (names_of S.participants) ≡ true
  pub distinct : each_after is_new_name [] (names_of S.participants) ≡ true
  pub required : each_after is_new_name [] S.required ≡ true

-- each scenario keeps them, and so its names are distinct
pub rules : (S : ScenarioValue) → IsTrue (is_scenario S) → Rules S
unfolding is_scenario is_duration is_participant_count are_required
rules S h =
    let a = and_parts (nat_le S.duration (2 ^ 61)) _ h in
    let b = and_parts (nat_le 1 (length S.participants) && nat_le (length S.participants) 32) _ a.1 in
    let n = and_parts (nat_le 1 (length S.participants)) (nat_le (length S.participants) 32) b.0 in
    let c = and_parts (list_all is_part S.participants) _ b.1 in
    let d = and_parts (are_sorted (names_of S.participants)) _ c.1 in
    let e = and_parts (nat_le (length S.required) 32) _ d.1 in
    let f = and_parts (each_after is_new_name [] S.required) _ e.1 in record {
      duration = leb-true S.duration (2 ^ 61) a.0;
      least = leb-true 1 (length S.participants) n.0;
      most = leb-true (length S.participants) 32 n.1;
      parts = c.0;
      sorted = d.0;
      distinct = distinct_behind [] (names_of S.participants) (λ i name at. refl) d.0;
      required = f.0;
    }

-- the steps of a participant have a size
pub sized : (part : PartValue) → IsTrue (is_part part) → IfSome part.step (λ size. IsTrue (is_step_size size))
unfolding is_part
sized part h =
    let rest : (is_none_or is_step_size part.step && (are_services part.services && (are_vars part.vars && (list_all (is_action (scope_of part) Ready) part.ready && is_script (scope_of part) part.script)))) ≡ true = (and_parts (is_name part.name) _ h).1 in
    on part.step (and_parts (is_none_or is_step_size part.step) _ rest).0
  where
    on : (step : Option ℕ) → is_none_or is_step_size step ≡ true → IfSome step (λ size. IsTrue (is_step_size size))
    on None e = tt
    on (Some size) e = e

-- its services are at most 64, numbered from 0 on

numbered_behind : (before services : List Service) → each_after is_next_service before services ≡ true → are_numbered (length before) services ≡ true
unfolding is_next_service is_next_own
numbered_behind before [] h = refl
numbered_behind before (s ∷ services) h =
    let b = and_parts (is_next_service before s) (each_after is_next_service (before ++ s ∷ []) services) h in
    let own : is_next_own before s ≡ true = (and_parts (is_next_own before s) (is_name s.name && (is_spec s.kind s.spec && (has_history s.kind || not s.history))) b.0).0 in
    let number : (s.id == length before) ≡ true = (and_parts (s.id == length before) (not (list_any (λ other. bytes_eq other.name s.name) before)) own).0 in
    let more : length (before ++ s ∷ []) ≡ length before + 1 = length-append before (s ∷ []) in
    let rest : are_numbered (length before + 1) services ≡ true = subst (λ n. are_numbered n services ≡ true) more (numbered_behind (before ++ s ∷ []) services b.1) in
    ap (λ c. c && are_numbered (length before + 1) services) number ∙ rest

few_services : (part : PartValue) → IsTrue (is_part part) → (length part.services ≤ 64) × IsTrue (are_numbered 0 part.services)
unfolding is_part are_services
few_services part h =
    let a : (is_none_or is_step_size part.step && (are_services part.services && (are_vars part.vars && (list_all (is_action (scope_of part) Ready) part.ready && is_script (scope_of part) part.script)))) ≡ true = (and_parts (is_name part.name) _ h).1 in
    let b : (are_services part.services && (are_vars part.vars && (list_all (is_action (scope_of part) Ready) part.ready && is_script (scope_of part) part.script))) ≡ true = (and_parts (is_none_or is_step_size part.step) _ a).1 in
    let c : are_services part.services ≡ true = (and_parts (are_services part.services) _ b).0 in
    let d = and_parts (nat_le (length part.services) 64) (each_after is_next_service [] part.services) c in
    (leb-true (length part.services) 64 d.0, numbered_behind [] part.services d.1)

-- what a seat asks of a setup and of ends
pub record Fits (S : Setup) (a : Account) : Type 0 where
  pub own : S.number < length S.names
  pub few : length S.names ≤ 32
  pub names : IsTrue (each_after is_new_name [] S.names)
  pub required : IfSome S.required (λ names. IsTrue (each_after is_new_name [] names))
  pub step : IfSome S.step (λ size. IsTrue (is_step_size size))
  pub duration : S.duration ≤ 2 ^ 61
  pub services : length S.services ≤ 64
  pub numbered : IsTrue (are_numbered 0 S.services)
  pub blocking : S.is_async ≡ false
  pub ready : S.ready_async ≡ false
  pub number : a.number ≡ S.number
  pub ways : size (place a) ≡ length S.names

-- the participant that was read at this index
pub part_at : (s : ScenarioValue) (parts : List PartValue) (n number : ℕ) (part : PartValue) → parts ≡ s.participants → n ≡ number → number < length s.participants
    → part ≡ get_or parts n part → slice_get s.participants n ≡ Some part
part_at s parts n number part same own low read =
    let low_n : n < length parts = subst (λ (l : List PartValue). n < length l) (sym same) (subst (λ k. k < length s.participants) (sym own) low) in
    ap (λ l. slice_get l n) (sym same) ∙ slice_get_read parts (length parts) n part refl low_n read

-- the setup of a participant and its ends
pub fits : (s : ScenarioValue) (a : Account) (i : ℕ) (part : PartValue) (S : Setup) → S ≡ setup_by s i part → i ≡ a.number → IsTrue (is_scenario s)
    → slice_get s.participants i ≡ Some part → size (place a) ≡ length s.participants → Fits S a
fits s a i part S is own law at ways =
    let r = rules s law in let n = length-map s.participants (λ (p : PartValue). p.name) in
    subst (λ x. Fits x a) (sym is) (record {
      own = subst (λ k. i < k) (sym n) (slice_get_within s.participants i part at);
      few = subst (λ k. k ≤ 32) (sym n) r.most;
      names = r.distinct;
      required = r.required;
      step = sized part (all_at is_part s.participants i part r.parts at);
      duration = r.duration;
      services = (few_services part (all_at is_part s.participants i part r.parts at)).0;
      numbered = (few_services part (all_at is_part s.participants i part r.parts at)).1;
      blocking = refl;
      ready = refl;
      number = sym own;
      ways = ways ∙ sym n;
    })

-- the seat that was made so
pub is_seat : (s : ScenarioValue) (i : ℕ) (part : PartValue) (v : View Origin) → slice_get s.participants i ≡ Some part → v.card.setup ≡ setup_by s i part → v.lists ≡ no_lists
    → v.origin ≡ record { scenario = s; number = i } → IsUnturned v → IsSeat s i v
is_seat s i part v at setup lists origin unturned = record {
  setup = λ other at_other. setup ∙ ap (setup_by s i) (same_Some part other (sym at ∙ at_other));
  lists = lists;
  origin = origin;
  unturned = unturned;
}

-- what follows of an answer, from one fact and from three
pub if_ok : {X E : Type 0} {P T : X → Type 0} (answer : Result X E) → ((x : X) → P x → T x) → IfOk answer P → IfOk answer T
if_ok (Ok x) f p = f x p
if_ok (Err e) f p = tt

pub if_all_ok : {X E : Type 0} {P Q R T : X → Type 0} (answer : Result X E) → ((x : X) → P x → Q x → R x → T x) → IfOk answer P → IfOk answer Q → IfOk answer R → IfOk answer T
if_all_ok (Ok x) f p q r = f x p q r
if_all_ok (Err e) f p q r = tt

-- ## One seat after the other

-- each of these is so at its place
abbrev pub Each : {X : Type 0} → (ℕ → X → Type 0) → List X → Type 0
Each {X} P xs = (i : ℕ) (x : X) → slice_get xs i ≡ Some x → P i x

-- an element of a list with one more behind is one of the list, or the last
get_cases : {X : Type 0} (xs : List X) (y : X) (i : ℕ) (x : X) → slice_get (xs ++ y ∷ []) i ≡ Some x → (slice_get xs i ≡ Some x) ⊎ ((y ≡ x) × (length xs ≡ i))
get_cases [] y zero x h = inr (same_Some y x h, refl)
get_cases [] y (suc i) x h = absurd (none-some x h)
get_cases (z ∷ xs) y zero x h = inl h
get_cases (z ∷ xs) y (suc i) x h = elim (get_cases xs y i x h) [ inl e ↦ inl e | inr e ↦ inr (e.0, ap suc e.1) ]

each_push : {X : Type 0} (P : ℕ → X → Type 0) (xs : List X) (y : X) → Each P xs → P (length xs) y → Each P (xs ++ y ∷ [])
each_push {X} P xs y was new i x at =
    elim (get_cases xs y i x at) [ inl e ↦ was i x e | inr e ↦ subst (λ z. P i z) e.0 (subst (λ k. P k y) e.1 new) ]

places_count : {A : Type 0} {G : App.Ghosts A} (ss : List (Seat A G)) → length (places (cards ss)) ≡ length ss
places_count {A} {G} ss =
    length-map (cards ss) (λ (c : Card). c.place) ∙ (length-map (views ss) (λ (v : View G.Origin). v.card) ∙ length-map ss (λ (t : Seat A G). view t))

-- one more seat
pub seats_push : {A : Type 0} {G : App.Ghosts A} (P : ℕ → View G.Origin → Type 0) (ss after : List (Seat A G)) (s : Seat A G) (number : ℕ)
    → Each P (views ss) → P number (view s) → number ≡ length ss → after ≡ ss ++ s ∷ [] → Each P (views after)
seats_push {A} {G} P ss after s number was new is more =
    subst (λ (vs : List (View G.Origin)). Each P vs) (sym (ap (λ (l : List (Seat A G)). views l) more ∙ map-append (λ (t : Seat A G). view t) ss (s ∷ [])))
    (each_push P (views ss) (view s) was (subst (λ k. P k (view s)) (is ∙ sym (length-map ss (λ (t : Seat A G). view t))) new))

places_more : {A : Type 0} {G : App.Ghosts A} (ss : List (Seat A G)) (s : Seat A G) → places (cards (ss ++ s ∷ [])) ≡ places (cards ss) ++ place s.wired.ends ∷ []
places_more {A} {G} [] s = refl
places_more {A} {G} (x ∷ ss) s = ap (λ l. place x.wired.ends ∷ l) (places_more ss s)

-- its ends are those that came next
pub places_push : {A : Type 0} {G : App.Ghosts A} (ss after : List (Seat A G)) (s : Seat A G) (a : Account) (xs ys : List Account) (ps : List Place)
    → places (cards ss) ++ map place xs ≡ ps → xs ≡ a ∷ ys → place s.wired.ends ≡ place a → after ≡ ss ++ s ∷ [] → places (cards after) ++ map place ys ≡ ps
places_push {A} {G} ss after s a xs ys ps was split own more =
    ap (λ (l : List (Seat A G)). places (cards l) ++ map place ys) more
    ∙ (ap (λ l. l ++ map place ys) (places_more ss s)
    ∙ (append_assoc (places (cards ss)) (place s.wired.ends ∷ []) (map place ys)
    ∙ (ap (λ x. places (cards ss) ++ (x ∷ map place ys)) own
    ∙ (ap (λ l. places (cards ss) ++ map place l) (sym split) ∙ was))))

-- where the next ends sit
pub record Next (count : ℕ) (ps : List Place) (a : Account) : Type 0 where
  pub number : a.number ≡ count
  pub ways : size (place a) ≡ length ps
  pub within : a.number < length ps

-- the number of the next ends is that of the seats so far
pub next : {A : Type 0} {G : App.Ghosts A} (ss : List (Seat A G)) (a : Account) (xs ys : List Account) (ps : List Place)
    → IsMesh ps → places (cards ss) ++ map place xs ≡ ps → xs ≡ a ∷ ys → Next (length ss) ps a
next {A} {G} ss a xs ys ps mesh was split =
    let at : slice_get ps (length ss) ≡ Some (place a) =
    ap (λ l. slice_get l (length ss)) (sym was) ∙ get_back (places (cards ss)) (map place xs) (place a) (length ss) (places_count ss) (ap (λ l. slice_get (map place l) 0) split) in
    let p = mesh.placed (length ss) (place a) at in
    record { number = p.0; ways = p.1; within = subst (λ k. k < length ps) (sym p.0) (slice_get_within ps (length ss) (place a) at) }

-- the first of fresh ends, and the rest of them
pub fresh_first : (a : Account) (xs ys : List Account) → xs ≡ a ∷ ys → AreFresh xs → IsFresh a
fresh_first a xs ys split h = h 0 a (ap (λ l. slice_get l 0) split)

pub fresh_rest : (a : Account) (xs ys : List Account) → xs ≡ a ∷ ys → AreFresh xs → AreFresh ys
fresh_rest a xs ys split h i b at = h (suc i) b (ap (λ l. slice_get l (suc i)) split ∙ at)

at_place : {X : Type 0} (P : X → Type 0) (xs : List X) → All P xs → (k : ℕ) (a : X) → slice_get xs k ≡ Some a → P a
at_place P xs h k a at =
    let low = slice_get_within xs k a at in
    subst P (same_Some (get_or xs k a) a (sym (slice_get-get_or xs k a low) ∙ at)) (h k a low)

-- the ends of a new mesh
pub fresh_mesh : (capacity : ℕ) (xs : List Account) → 1 ≤ capacity → All (IsUnused capacity) xs → AreFresh xs
fresh_mesh capacity xs some unused i a at = let u = at_place (IsUnused capacity) xs unused i a at in record {
  pushed = u.pushed;
  popped = u.popped;
  roomy = λ q peer. (let e = u.room q peer in omega arith);
}

-- where no ends are left each has a seat
pub seats_count : {A : Type 0} {G : App.Ghosts A} (ss : List (Seat A G)) (xs all : List Account) (n : ℕ)
    → places (cards ss) ++ map place xs ≡ map place all → length xs ≡ 0 → length all ≡ n → length (views ss) ≡ n
seats_count {A} {G} ss xs all n is none count =
    let a : length (places (cards ss) ++ map place xs) ≡ length (places (cards ss)) + length (map place xs) = length-append (places (cards ss)) (map place xs) in
    let b : length (map place xs) ≡ length xs = length-map xs place in
    let c : length (map place all) ≡ length all = length-map all place in
    let d : length (places (cards ss)) ≡ length ss = places_count ss in
    let e : length (places (cards ss) ++ map place xs) ≡ length (map place all) = ap length is in
    length-map ss (λ (t : Seat A G). view t) ∙ (let r : length ss ≡ n = omega arith in r)

-- ## All seats together

-- the setup of one of them
setup_at : (s : ScenarioValue) (vs : List (View Origin)) → AreSeats s vs → (i : ℕ) (v : View Origin) → slice_get vs i ≡ Some v → (part : PartValue) × (v.card.setup ≡ setup_by s i part)
setup_at s vs h i v at =
    let p = slice_get-some s.participants i (subst (λ k. i < k) h.count (slice_get_within vs i v at)) in
    (p.0, (h.each i v at).setup p.0 p.1)

-- the names that their setups have
pub names_are : (s : ScenarioValue) (vs : List (View Origin)) → AreSeats s vs → names_in vs ≡ names_of s.participants
names_are s [] h = on s.participants h.count
  where
    on : (parts : List PartValue) → 0 ≡ length parts → [] ≡ names_of parts
    on [] e = refl
    on (part ∷ parts) e = absurd (omega arith)
names_are s (v ∷ vs) h = ap (λ (S : Setup). S.names) (setup_at s (v ∷ vs) h 0 v refl).1

-- they are alike, as all have the names and the required ones of the scenario
pub alike : (s : ScenarioValue) (vs : List (View Origin)) → IsTrue (is_scenario s) → AreSeats s vs → AreAlike vs
alike s vs law h = record {
  sorted = ap are_sorted_in_world (names_are s vs h) ∙ (same_sorted (names_of s.participants) ∙ (rules s law).sorted);
  names = λ i v at. ap (λ (S : Setup). S.names) (setup_at s vs h i v at).1 ∙ sym (names_are s vs h);
  required = λ i j v w at_i at_j _ _. ap (λ (S : Setup). S.required) (setup_at s vs h i v at_i).1 ∙ sym (ap (λ (S : Setup). S.required) (setup_at s vs h j w at_j).1);
}
