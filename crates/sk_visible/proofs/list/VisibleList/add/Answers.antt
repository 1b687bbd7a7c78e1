use Rattle.std.proofs.Common.{◌∙◌, ap, sym, subst, List}
use Rattle.sk_law.specs.Visible.{insert}
use Rattle.sk_law.specs.declared.visible.Visible.{Visible}
use Rattle.sk_visible.specs.Ordered.{IsOrdered, IsPlace}
use Rattle.sk_visible.proofs.Orders.{sort_more}
use Rattle.sk_visible.proofs.Places.{Inserted, inserted}
use Rattle.sk_visible.proofs.list.VisibleList.add.Goals as goal

found : (c : goal.In_ok-insert) → Inserted c.self.inside.items.items c.args.item c.place_of-place.result
found c = inserted c.self.inside.items.items c.args.item c.place_of-place.result c.self.invariant
    (subst (λ (l : List Visible). IsPlace c.args.item l c.place_of-place.result) c.deref.ensures.value c.place_of-place.ensures.place)

pub invariant_of-self-2 : goal.invariant_of-self-2
invariant_of-self-2 c = subst (λ (l : List Visible). IsOrdered l) (sym c.in_ok-insert.ensures.items) (found c).ordered

pub returns-clause-ok : goal.returns-clause-ok
returns-clause-ok c = c.in_ok-insert.ensures.items ∙ (found c).same ∙ ap (insert c.args.item) c.self.view_is

pub returns-clause-sorted : goal.returns-clause-sorted
returns-clause-sorted c = λ items is. c.in_ok-insert.ensures.items ∙ (found c).same ∙ ap (insert c.args.item) (c.self.view_is ∙ is) ∙ sym (sort_more items c.args.item)
