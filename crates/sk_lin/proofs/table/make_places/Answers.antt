use Rattle.std.proofs.Common.{◌∙◌, ◌++◌, ◌∷◌, [], ap, sym, subst, length, arith}
use Rattle.std.proofs.lemmas.List.{length-append}
use Rattle.sk_lin.specs.Table.{joined, AreByIdentifier}
use Rattle.sk_lin.proofs.TableLaws.{joined_place, ordered_place}
use Rattle.sk_lin.proofs.table.make_places.Goals as goal

pub loop-preserved : goal.loop-preserved
loop-preserved c =
    let pushed = c.in_ok-push.ensures.items ∙ ap (λ one. c.loop.by_id.items ++ one ∷ []) c.new.ensures in
    let longer = ap length pushed ∙ length-append c.loop.by_id.items ([] ∷ []) in (
      ap joined pushed ∙ joined_place c.loop.by_id.items ∙ c.loop.invariant.0,
      λ all. subst (AreByIdentifier 0) (sym pushed) (ordered_place 0 c.loop.by_id.items (c.loop.invariant.1 all)),
      omega (arith, longer, c.loop.invariant.2),
    )
