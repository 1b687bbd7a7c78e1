-- What is left to do: a number that no turn raises, and that each turn which does something lowers.
use Rattle.std.specs.Prelude.{ℕ, ◌+◌, ◌-◌, List}
use Rattle.std.specs.List.{sum_by}
use Rattle.sk_law.specs.Ends.{left}
use Rattle.sk_sim.specs.Cards.{Card, pushed_total, got_total}

-- more messages than a participant pushes or gets: at most 5,600,000 to and from each of at most 32
abbrev pub ceiling : ℕ
ceiling = 184800000

-- the turns that may still do something, the messages that may still be pushed, and those that may still be got
abbrev pub rank : Card → ℕ
rank c = left c.past + ((ceiling - pushed_total c) + (ceiling - got_total c))

unfoldable pub work : List Card → ℕ
work cs = sum_by rank cs
