-- One of several seats took a turn.
use Rattle.std.proofs.Common.{◌≡◌, ℕ, zero, suc, false, List, [], ◌∷◌, set, get_or, sym, ◌∙◌, ap, subst, refl, Some}
use Rattle.std.specs.List.{slice_get}
use Rattle.std.proofs.lemmas.Option.{same_Some, none-some}
use Rattle.sk_mesh.specs.Places.{Place, place, IsMesh}
use Rattle.sk_node.specs.declared.app.App as App
use Rattle.sk_sim.specs.declared.seat.Seat.{Seat}
use Rattle.sk_sim.specs.Views.{View, view, views, cards, cards_in, places, NoneFailed}

-- each has the ends of the same rings still
places_turned : {A : Type 0} {G : App.Ghosts A} (ss : List (Seat A G)) (i : ℕ) (s t : Seat A G) →
    s ≡ get_or ss i s → place t.wired.ends ≡ place s.wired.ends → places (cards (set ss i t)) ≡ places (cards ss)
places_turned {A} {G} [] i s t at same = refl
places_turned {A} {G} (x ∷ ss) zero s t at same =
    ap (λ p. p ∷ places (cards ss)) (same ∙ ap (λ (u : Seat A G). place u.wired.ends) at)
places_turned {A} {G} (x ∷ ss) (suc i) s t at same = ap (λ ps. place x.wired.ends ∷ ps) (places_turned ss i s t at same)

-- memory was refused to none of them, since it wasn't to this one
none_failed : {A : Type 0} {G : App.Ghosts A} (ss : List (Seat A G)) (i : ℕ) (t : Seat A G) →
    NoneFailed (views ss) → t.failed ≡ false → NoneFailed (views (set ss i t))
none_failed {A} {G} [] i t all own k v at = absurd (none-some v at)
none_failed {A} {G} (x ∷ ss) zero t all own zero v at = subst (λ (w : View G.Origin). w.failed ≡ false) (same_Some (view t) v at) own
none_failed {A} {G} (x ∷ ss) zero t all own (suc k) v at = all (suc k) v at
none_failed {A} {G} (x ∷ ss) (suc i) t all own zero v at = all zero v at
none_failed {A} {G} (x ∷ ss) (suc i) t all own (suc k) v at = none_failed ss i t (λ q w there. all (suc q) w there) own k v at

-- both, behind a look around
pub mesh_turned : {A : Type 0} {G : App.Ghosts A} (before ss : List (Seat A G)) (i : ℕ) (s t : Seat A G) →
    IsMesh (places (cards before)) → views ss ≡ views before → s ≡ get_or ss i s → place t.wired.ends ≡ place s.wired.ends →
    IsMesh (places (cards (set ss i t)))
mesh_turned {A} {G} before ss i s t mesh looked at same =
    subst (λ (ps : List Place). IsMesh ps) (sym (places_turned ss i s t at same ∙ ap (λ (vs : List (View G.Origin)). places (cards_in vs)) looked)) mesh

pub sound_turned : {A : Type 0} {G : App.Ghosts A} (before ss : List (Seat A G)) (i : ℕ) (t : Seat A G) →
    NoneFailed (views before) → views ss ≡ views before → t.failed ≡ false → NoneFailed (views (set ss i t))
sound_turned {A} {G} before ss i t sound looked own =
    none_failed ss i t (subst (λ (vs : List (View G.Origin)). NoneFailed vs) (sym looked) sound) own
