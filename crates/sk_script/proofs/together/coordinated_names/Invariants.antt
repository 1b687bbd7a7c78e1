use Rattle.std.proofs.Common.{◌≡◌, ◌++◌, drop}
use Rattle.sk_script.specs.Scenarios.{coordinated_names}
use Rattle.sk_script.proofs.together.coordinated_names.Given as goal

abbrev pub invariant-loop-part : goal.invariant-loop-part
invariant-loop-part l = l.names.items ++ coordinated_names (drop l.part-index l.parts) ≡ coordinated_names l.parts
