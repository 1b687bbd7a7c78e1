use Rattle.std.proofs.Common.{◌≡◌, length, drop}
use Rattle.sk_script_text.specs.Written.{are_same}
use Rattle.sk_script_text.proofs.write_scenario.are_same.Given as goal

abbrev pub invariant-loop-index : goal.invariant-loop-index
invariant-loop-index l =
    (length l.names ≡ length l.others)
    × (are_same (drop l.index l.names) (drop l.index l.others) ≡ are_same l.names l.others)
