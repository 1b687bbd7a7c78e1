use Rattle.std.proofs.Common.{rules, arith, ◌≡◌, ◌∙◌, ap, sym, true, Some}
use Rattle.sk_tools.proofs.outside.reading.read_opened.Goals as goal

pub returns-then-count-eq0-clause-told : goal.returns-then-count-eq0-clause-told
returns-then-count-eq0-clause-told g c = λ told place all holds.
    let tells : g.F.Files.tells c.pieces.files ≡ true = c.pieces.invariant.tells ∙ told in
    let held : g.F.Files.content c.pieces.files (g.F.Files.current c.pieces.files) ≡ Some all =
    c.pieces.invariant.contents (g.F.Files.current c.pieces.files)
    ∙ ap (g.F.Files.content c.args.files.now) c.pieces.invariant.current ∙ holds in
    let step = c.in_ok-count.ensures.told tells all held (c.pieces.invariant.told told place all holds) in
    let whole : c.read_piece.new.bytes.items ≡ all = step.1 c.if-count-eq0.true in
    (ap Some (sym whole), omega (arith, c.in_ok-count.ensures.longer, c.pieces.invariant.short))

pub pieces-preserved : goal.pieces-preserved
pieces-preserved g c = record {
  ready = search rules;
  faults = search rules;
  tells = search rules;
  contents = λ at. c.in_ok-count.ensures.contents at ∙ c.pieces.invariant.contents at;
  current = search rules;
  short = omega arith;
  told = λ told place all holds.
      let tells : g.F.Files.tells c.pieces.files ≡ true = c.pieces.invariant.tells ∙ told in
      let held : g.F.Files.content c.pieces.files (g.F.Files.current c.pieces.files) ≡ Some all =
      c.pieces.invariant.contents (g.F.Files.current c.pieces.files)
      ∙ ap (g.F.Files.content c.args.files.now) c.pieces.invariant.current ∙ holds in
      let step = c.in_ok-count.ensures.told tells all held (c.pieces.invariant.told told place all holds) in
      step.0;
}
