-- What the type of a scenario's app says of the seats of a run: the calls of each have played the script of its participant.
use Rattle.std.proofs.Common.{◌≡◌, ℕ, ◌∙◌, List, Some, sym, ap, subst}
use Rattle.std.specs.List.{slice_get}
use Rattle.std.proofs.Math.Logic.{∥∥₁_elim}
use Rattle.sk_node.specs.Lists.{Lists}
use Rattle.sk_node.specs.declared.app.App as App
use Rattle.sk_script.specs.Scenarios.{PartValue}
use Rattle.sk_sim.specs.declared.scripted.Scripted.{Scripted}
use Rattle.sk_sim.specs.declared.seat.Seat.{Seat}
use Rattle.sk_sim.specs.Played.{HasPlayed}
use Rattle.sk_sim.specs.Scripts.{Origin, lists_of, origin_of, script_by}
use Rattle.sk_sim.specs.Views.{View, view, views}
use Rattle.sk_sim.proofs.Lists.{slice_get-from_map}
use Rattle.sk_sim.proofs.PlayedOnce.{played_once}

-- by what the apps are made of
abbrev pub HavePlayedBy : {O : Type 0} → (O → Origin) → List (View O) → Type 0
HavePlayedBy {O} of vs = (i : ℕ) (v : View O) → slice_get vs i ≡ Some v → (part : PartValue)
    → slice_get (of v.origin).scenario.participants (of v.origin).number ≡ Some part → HasPlayed (script_by part) v.lists.made

abbrev pub HavePlayed : List (View Origin) → Type 0
HavePlayed vs = HavePlayedBy (λ o. o) vs

-- as the type of the app keeps
pub played_by : {G : App.Ghosts Scripted} → (of : G.Origin → Origin) → ((app : Scripted) → G.lists app ≡ lists_of app) → ((app : Scripted) → of (G.origin app) ≡ origin_of app)
    → (ss : List (Seat Scripted G)) → HavePlayedBy of (views ss)
played_by {G} of lists origin ss i v at part its =
    let s = slice_get-from_map (λ (t : Seat Scripted G). view t) ss i v at in
    subst (λ (x : View G.Origin). (p : PartValue) → slice_get (of x.origin).scenario.participants (of x.origin).number ≡ Some p → HasPlayed (script_by p) x.lists.made) s.2 (own s.0.app) part its
  where
    own : (app : Scripted) (p : PartValue) → slice_get (of (G.origin app)).scenario.participants (of (G.origin app)).number ≡ Some p → HasPlayed (script_by p) (G.lists app).made
    own app p at_p =
        let there = ap (λ (o : Origin). slice_get o.scenario.participants o.number) (sym (origin app)) ∙ at_p in
        subst (λ (l : Lists). HasPlayed (script_by p) l.made) (sym (lists app))
        (∥∥₁_elim app.scripted (played_once (script_by p) app.made.items) (λ h. h.played p there))
