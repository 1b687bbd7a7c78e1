use Rattle.std.proofs.Common.{◌≡◌, take}
use Rattle.sk_machine.specs.Machines.{played}
use Rattle.sk_machine.specs.Playing.{act_all}
use Rattle.sk_machine.proofs.play.Play.act_all.Given as goal

abbrev pub invariant-loop-action : goal.invariant-loop-action
invariant-loop-action l = played l.self ≡ act_all l.cause (played l.fn.self) (take l.action-index l.actions)
