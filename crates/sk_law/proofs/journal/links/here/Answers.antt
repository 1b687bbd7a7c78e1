use Rattle.std.proofs.Common.{true, false, ◌∙◌, sym, ap, append-nil, ◌++◌, ◌∷◌, []}
use Rattle.sk_law.proofs.Readers.{here_more}
use Rattle.sk_law.proofs.journal.links.here.Goals as goal
use Rattle.sk_law.proofs.journal.links.here.Goals.{then-is_told+in_ok-push, else-is_told}

pub loop-place-preserved : goal.loop-place-preserved
loop-place-preserved c =
    elim c.if-is_told.branch [
      | then-is_told+in_ok-push w ↦ rw w.found-is (w.in_ok-push.ensures.items ∙ ap (λ xs. xs ++ c.loop-place.place ∷ []) c.loop-place.invariant ∙ sym (here_more c.args.lines.now c.args.own c.loop-place.place true w.if-is_told.ensures))
      | else-is_told w ↦ rw w.found-is (c.loop-place.invariant ∙ sym (append-nil _) ∙ sym (here_more c.args.lines.now c.args.own c.loop-place.place false w.if-is_told.ensures))
    ]
