use Rattle.std.proofs.Common.{arith, sym}
use Rattle.sk_visible.proofs.Places.{one_back, place_found}
use Rattle.sk_visible.proofs.list.place_of.Goals as goal

pub loop-place-preserved : goal.loop-place-preserved
loop-place-preserved c =
    let h = c.loop-place.invariant in let le = h.0 in
    (omega arith, one_back c.args.item.now c.args.items.now c.loop-place.place c.index-items-place.result c.index-items-place.is c.loop-place-test.true h.0 h.1 (sym c.if-comes_before.ensures))

pub returns-else-comes_before-clause-place : goal.returns-else-comes_before-clause-place
returns-else-comes_before-clause-place c =
    let h = c.loop-place.invariant in
    place_found c.args.item.now c.args.items.now c.loop-place.place c.index-items-place.result c.index-items-place.is c.loop-place-test.true h.0 h.1 (sym c.if-comes_before.ensures)
