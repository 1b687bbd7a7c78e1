use Rattle.std.proofs.Common.{◌≡◌, ◌++◌, drop}
use Rattle.std.specs.List.{flat_map}
use Rattle.sk_script.proofs.read.all_warnings.Given as goal

abbrev pub invariant-loop-read : goal.invariant-loop-read
invariant-loop-read l = l.all.items ++ flat_map (λ read. read.warnings) (drop l.read-index l.reads) ≡ flat_map (λ read. read.warnings) l.reads
