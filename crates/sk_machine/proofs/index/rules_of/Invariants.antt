use Rattle.std.proofs.Common.{◌≡◌, take}
use Rattle.sk_machine.specs.Index.{rules_of}
use Rattle.sk_machine.proofs.index.rules_of.Given as goal

abbrev pub invariant-loop-rule : goal.invariant-loop-rule
invariant-loop-rule l = l.own.items ≡ rules_of (take l.rule-index l.rules) l.service
