use Rattle.std.proofs.Common.{◌≡◌, take}
use Rattle.sk_machine.specs.Machines.{played}
use Rattle.sk_machine.specs.Playing.{follow_all}
use Rattle.sk_machine.proofs.play.Play.follow_all.Given as goal

abbrev pub invariant-loop-rule : goal.invariant-loop-rule
invariant-loop-rule l = played l.self ≡ follow_all l.cause (take l.rule-index l.rules) (played l.fn.self)
