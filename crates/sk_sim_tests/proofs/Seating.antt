-- Seats that are made over a mesh, one after the other.
use Rattle.std.proofs.Common.{◌≡◌, ℕ, zero, suc, ◌≤◌, ◌⊎◌, inl, inr, List, [], ◌∷◌, ◌++◌, map, get_or, refl, sym, ◌∙◌, ap, subst, arith, append_assoc, Some}
use Rattle.std.specs.List.{slice_get, All}
use Rattle.std.proofs.lemmas.List.{map-append}
use Rattle.std.proofs.lemmas.Option.{slice_get_within, slice_get-get_or, same_Some, none-some}
use Rattle.sk_mesh.specs.Places.{Account, Place, place}
use Rattle.sk_mesh.specs.Ends.{IsUnused}
use Rattle.sk_node.specs.declared.app.App as App
use Rattle.sk_msg.specs.Rules.{is_new_name}
use Rattle.sk_sim.specs.declared.seat.Seat.{Seat}
use Rattle.sk_sim.specs.Wiring.{IsFresh}
use Rattle.sk_sim.specs.Views.{View, view, views, cards, places, AreUnturned}
use Rattle.sk_sim.specs.Runs.{names_in, AreAlike}
use Rattle.sk_sim_tests.specs.Made.{AreNames, IsMade, AreMade, AreFresh}

pub two_names : AreNames ((65 ∷ []) ∷ (66 ∷ []) ∷ [])
unfolding is_new_name
two_names = record { few = omega arith; distinct = refl; sorted = refl }

pub three_names : AreNames ((65 ∷ []) ∷ (66 ∷ []) ∷ (67 ∷ []) ∷ [])
unfolding is_new_name
three_names = record { few = omega arith; distinct = refl; sorted = refl }

-- an element of a list with one more behind is one of the list, or the last
get_cases : {X : Type 0} (xs : List X) (y : X) (i : ℕ) (x : X) → slice_get (xs ++ y ∷ []) i ≡ Some x → (slice_get xs i ≡ Some x) ⊎ (y ≡ x)
get_cases [] y zero x h = inr (same_Some y x h)
get_cases [] y (suc i) x h = absurd (none-some x h)
get_cases (z ∷ xs) y zero x h = inl h
get_cases (z ∷ xs) y (suc i) x h = get_cases xs y i x h

made_push : {O : Type 0} (all : List (List ℕ)) (vs : List (View O)) (v : View O) → AreMade all vs → IsMade all v → AreMade all (vs ++ v ∷ [])
made_push {O} all vs v was new i x at = elim (get_cases vs v i x at) [ inl e ↦ was i x e | inr e ↦ subst (λ w. IsMade all w) e new ]

pub seats_push : {A : Type 0} {G : App.Ghosts A} (all : List (List ℕ)) (ss after : List (Seat A G)) (s : Seat A G) → AreMade all (views ss) → IsMade all (view s) → after ≡ ss ++ s ∷ [] → AreMade all (views after)
seats_push {A} {G} all ss after s was new more =
    subst (λ (vs : List (View G.Origin)). AreMade all vs) (sym (ap (λ (l : List (Seat A G)). views l) more ∙ map-append (λ (t : Seat A G). view t) ss (s ∷ [])))
    (made_push all (views ss) (view s) was new)

places_more : {A : Type 0} {G : App.Ghosts A} (ss : List (Seat A G)) (s : Seat A G) → places (cards (ss ++ s ∷ [])) ≡ places (cards ss) ++ place s.wired.ends ∷ []
places_more {A} {G} [] s = refl
places_more {A} {G} (x ∷ ss) s = ap (λ l. place x.wired.ends ∷ l) (places_more ss s)

pub places_push : {A : Type 0} {G : App.Ghosts A} (ss after : List (Seat A G)) (s : Seat A G) (a : Account) (xs ys : List Account) (ps : List Place)
    → places (cards ss) ++ map place xs ≡ ps → xs ≡ a ∷ ys → place s.wired.ends ≡ place a → after ≡ ss ++ s ∷ [] → places (cards after) ++ map place ys ≡ ps
places_push {A} {G} ss after s a xs ys ps was split own more =
    ap (λ (l : List (Seat A G)). places (cards l) ++ map place ys) more
    ∙ (ap (λ l. l ++ map place ys) (places_more ss s)
    ∙ (append_assoc (places (cards ss)) (place s.wired.ends ∷ []) (map place ys)
    ∙ (ap (λ x. places (cards ss) ++ (x ∷ map place ys)) own
    ∙ (ap (λ l. places (cards ss) ++ map place l) (sym split) ∙ was))))

pub fresh_first : (a : Account) (xs ys : List Account) → xs ≡ a ∷ ys → AreFresh xs → IsFresh a
fresh_first a xs ys split h = h 0 a (ap (λ l. slice_get l 0) split)

pub fresh_rest : (a : Account) (xs ys : List Account) → xs ≡ a ∷ ys → AreFresh xs → AreFresh ys
fresh_rest a xs ys split h i b at = h (suc i) b (ap (λ l. slice_get l (suc i)) split ∙ at)

at_place : {X : Type 0} (P : X → Type 0) (xs : List X) → All P xs → (k : ℕ) (a : X) → slice_get xs k ≡ Some a → P a
at_place P xs h k a at =
    let low = slice_get_within xs k a at in
    subst P (same_Some (get_or xs k a) a (sym (slice_get-get_or xs k a low) ∙ at)) (h k a low)

-- the ends of a new mesh
pub fresh_mesh : (capacity : ℕ) (xs : List Account) → 1 ≤ capacity → All (IsUnused capacity) xs → AreFresh xs
fresh_mesh capacity xs some unused i a at = let u = at_place (IsUnused capacity) xs unused i a at in record {
  pushed = u.pushed;
  popped = u.popped;
  roomy = λ q peer. (let e = u.room q peer in omega arith);
}

pub unturned : {O : Type 0} (all : List (List ℕ)) (vs : List (View O)) → AreMade all vs → AreUnturned vs
unturned {O} all vs h i v at = (h i v at).unturned

sorted : {O : Type 0} (all : List (List ℕ)) (vs : List (View O)) → AreNames all → AreMade all vs → AreNames (names_in vs)
sorted {O} all [] names h = record { few = omega arith; distinct = refl; sorted = refl }
sorted {O} all (v ∷ vs) names h = subst AreNames (sym (h 0 v refl).names) names

named : {O : Type 0} (all : List (List ℕ)) (vs : List (View O)) → AreMade all vs → (i : ℕ) (v : View O) → slice_get vs i ≡ Some v → v.card.setup.names ≡ names_in vs
named {O} all [] h i v at = absurd (none-some v at)
named {O} all (x ∷ vs) h i v at = (h i v at).names ∙ sym (h 0 x refl).names

pub alike : {O : Type 0} (all : List (List ℕ)) (vs : List (View O)) → AreNames all → AreMade all vs → AreAlike vs
alike {O} all vs names h = record {
  sorted = (sorted all vs names h).sorted;
  names = named all vs h;
  required = λ i j v w at_i at_j _ _. (h i v at_i).required ∙ sym (h j w at_j).required;
}
