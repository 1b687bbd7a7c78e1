use Rattle.std.proofs.Common.{◌≡◌, drop, map, true}
use Rattle.std.specs.String.{string_bytes}
use Rattle.sk_text.specs.Lines.{world_text, journals_lines}
use Rattle.sk_tools.proofs.PieceLaws.{IsGoing}
use Rattle.sk_tools.proofs.simulate.writing.write_world.Given as goal

-- of the whole text so much was sent, so much waits, and the journals behind are still to come
abbrev pub invariant-loop-number : goal.invariant-loop-number
invariant-loop-number g l = record {
  faults : g.O.Sink.faults l.out ≡ g.O.Sink.faults l.fn.out;
  tells : g.O.Sink.tells l.out ≡ g.O.Sink.tells l.fn.out;
  written : g.O.Sink.tells l.fn.out ≡ true →
      IsGoing (world_text l.names (map (λ journal. journal.items) l.journals)) (g.O.Sink.written l.fn.out) (g.O.Sink.written l.out) (string_bytes l.text)
      (journals_lines l.number (map (λ journal. journal.items) (drop l.number l.journals)));
}
