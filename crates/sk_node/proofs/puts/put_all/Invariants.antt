use Rattle.std.specs.Prelude.{◌≡◌, take}
use Rattle.sk_law.specs.Past.{put_each}
use Rattle.sk_law.specs.Kept.{grown}
use Rattle.sk_node.proofs.puts.put_all.Given as goal

abbrev pub invariant-loop-number : goal.invariant-loop-number
invariant-loop-number l = l.journal ≡ grown (put_each (take l.number-index l.numbers) l.message l.fn.journal.past) l.fn.journal
