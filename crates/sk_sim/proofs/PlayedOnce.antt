-- That calls have played a script has one proof at most.
use Rattle.std.specs.Prelude.{List, [], ◌∷◌, ◌++◌}
use Rattle.std.specs.Coded.{×_prop, Unit-prop}
use Rattle.std.proofs.Props.{props}
use Rattle.sk_msg.specs.declared.action.Action.{Action}
use Rattle.sk_law.specs.declared.made.Made.{Made}
use Rattle.sk_law.specs.Script.{Script, AsksFor}
use Rattle.sk_sim.specs.Played.{HasPlayed, PlayedFrom, asked_for}

asks_once : (one : Made) (all : List Action) → IsProp (AsksFor one all)
asks_once one all = Prim.hlevel props

played_from_once : (script : Script) (before made : List Made) → IsProp (PlayedFrom script before made)
played_from_once script before [] = Unit-prop
played_from_once script before (one ∷ more) =
    ×_prop (asks_once one (asked_for script before one.call)) (played_from_once script (before ++ one ∷ []) more)

pub played_once : (script : Script) (made : List Made) → IsProp (HasPlayed script made)
played_once script made = played_from_once script [] made
