use Rattle.std.proofs.Common.{◌≡◌, drop}
use Rattle.sk_script.specs.Reading.{all_coordinated}
use Rattle.sk_script.proofs.together.are_coordinated.Given as goal

abbrev pub invariant-loop-index : goal.invariant-loop-index
invariant-loop-index l = all_coordinated l.at l.parts l.index (drop l.index l.names) ≡ all_coordinated l.at l.parts 0 l.names
