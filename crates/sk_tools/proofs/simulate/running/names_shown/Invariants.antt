use Rattle.std.proofs.Common.{◌≡◌, take}
use Rattle.sk_tools.specs.Running.{names_shown}
use Rattle.sk_tools.proofs.simulate.running.names_shown.Given as goal

abbrev pub invariant-loop-part : goal.invariant-loop-part
invariant-loop-part l = l.names.items ≡ names_shown (take l.part-index l.parts)
