use Rattle.std.proofs.Common.{◌≡◌, [], take, drop}
use Rattle.sk_script.specs.Reading.{names_differ}
use Rattle.sk_script.proofs.together.are_distinct.Given as goal

abbrev pub invariant-loop-index : goal.invariant-loop-index
invariant-loop-index l = names_differ l.at (take l.index l.reads) l.index (drop l.index l.reads) ≡ names_differ l.at [] 0 l.reads
