use Rattle.std.proofs.Common.{◌≡◌, take}
use Rattle.sk_tools.specs.Outside.{Says}
use Rattle.sk_tools.specs.Check.{warning_lines}
use Rattle.sk_tools.proofs.outside.lines.warn.Given as goal

abbrev pub invariant-loop-warning : goal.invariant-loop-warning
invariant-loop-warning g l = record {
  tells : g.E.Sink.tells l.err ≡ g.E.Sink.tells l.fn.err;
  says : Says (g.E.Sink.tells l.fn.err) (g.E.Sink.faults l.fn.err) (g.E.Sink.faults l.err) (g.E.Sink.written l.fn.err) (g.E.Sink.written l.err)
      (warning_lines (take l.warning-index l.warnings));
}
