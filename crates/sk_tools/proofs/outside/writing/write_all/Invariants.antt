use Rattle.std.proofs.Common.{◌≡◌, ◌++◌, ℕ, List, length, true}
use Rattle.sk_tools.proofs.outside.writing.write_all.Given as goal

abbrev pub invariant-pieces : goal.invariant-pieces
invariant-pieces g l = record {
  faults : g.S.Sink.faults l.sink ≡ g.S.Sink.faults l.fn.sink;
  tells : g.S.Sink.tells l.sink ≡ g.S.Sink.tells l.fn.sink;
  written : g.S.Sink.tells l.fn.sink ≡ true →
      (part : List ℕ) × (part ++ l.rest ≡ l.fn.text) × (g.S.Sink.written l.sink ≡ g.S.Sink.written l.fn.sink ++ part);
}

abbrev pub decreases-pieces : goal.decreases-pieces
decreases-pieces g l = length l.rest
