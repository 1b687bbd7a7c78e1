use Rattle.std.proofs.Common.{◌≡◌, ◌++◌, drop, true}
use Rattle.std.specs.List.{flat_map}
use Rattle.std.specs.String.{string_bytes}
use Rattle.sk_text.specs.Lines.{journal_lines, entry_line}
use Rattle.sk_tools.proofs.PieceLaws.{IsGoing}
use Rattle.sk_tools.proofs.simulate.writing.write_journal.Given as goal

-- of what waited and the lines of the journal so much was sent, so much waits, and the entries behind are still to come
abbrev pub invariant-loop-entry : goal.invariant-loop-entry
invariant-loop-entry g l = record {
  faults : g.O.Sink.faults l.out ≡ g.O.Sink.faults l.fn.out;
  tells : g.O.Sink.tells l.out ≡ g.O.Sink.tells l.fn.out;
  written : g.O.Sink.tells l.fn.out ≡ true →
      IsGoing (string_bytes l.fn.text ++ journal_lines l.number l.journal) (g.O.Sink.written l.fn.out) (g.O.Sink.written l.out) (string_bytes l.text)
      (flat_map entry_line (drop l.entry-index l.journal));
}
