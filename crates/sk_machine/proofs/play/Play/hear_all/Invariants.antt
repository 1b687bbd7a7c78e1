use Rattle.std.proofs.Common.{◌≡◌, take}
use Rattle.std.specs.Prelude.{map}
use Rattle.std.specs.List.{fold}
use Rattle.sk_law.specs.Script.{delivered}
use Rattle.sk_machine.specs.Index.{hear_by}
use Rattle.sk_machine.specs.Machines.{played}
use Rattle.sk_machine.proofs.play.Play.hear_all.Given as goal

abbrev pub invariant-loop-item : goal.invariant-loop-item
invariant-loop-item l = played l.self ≡ fold (hear_by l.kinds l.on) (played l.fn.self) (map delivered (take l.item-index l.seen))
