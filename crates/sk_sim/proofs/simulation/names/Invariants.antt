use Rattle.std.proofs.Common.{◌≡◌, take}
use Rattle.sk_script.specs.Scenarios.{names_of}
use Rattle.sk_sim.proofs.simulation.names.Given as goal

abbrev pub invariant-loop-part : goal.invariant-loop-part
invariant-loop-part l = l.names.items ≡ names_of (take l.part-index l.participants)
