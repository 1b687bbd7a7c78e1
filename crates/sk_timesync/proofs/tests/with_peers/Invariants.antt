use Rattle.std.proofs.Common.{ℕ, ◌<◌}
use Rattle.std.specs.Prelude.{All, Contains}
use Rattle.sk_timesync.specs.Notes.{numbers, IsFresh}
use Rattle.sk_timesync.proofs.tests.with_peers.Given as goal

abbrev pub invariant-loop-peer : goal.invariant-loop-peer
invariant-loop-peer l =
    IsFresh l.steps × All (λ number. number < l.peer) (numbers l.steps) × ((number : ℕ) → number < l.peer → Contains (numbers l.steps) number)
