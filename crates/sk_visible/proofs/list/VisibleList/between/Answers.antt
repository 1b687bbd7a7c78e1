use Rattle.std.proofs.Common.{◌≡◌, ◌∙◌, ap, sym, subst, List, true, false, ltb, take, drop, ◌-◌}
use Rattle.std.specs.List.{filter}
use Rattle.std.specs.List.Sorted.{IsNonDecreasingBy, IsPartitionPoint}
use Rattle.sk_law.specs.Visible.{is_between}
use Rattle.sk_law.specs.declared.visible.Visible.{Visible}
use Rattle.sk_visible.proofs.Slices.{stamps_rise, slice_between, none_between}
use Rattle.sk_visible.proofs.list.VisibleList.between.Goals as goal

pub count_below-start-requires : goal.count_below-start-requires
count_below-start-requires c = subst (λ (l : List Visible). IsNonDecreasingBy (λ (i : Visible). i.stamp) l) (sym c.deref.ensures.value) (stamps_rise c.self.inside.items.items c.self.invariant)

pub count_below-end-requires : goal.count_below-end-requires
count_below-end-requires c = subst (λ (l : List Visible). IsNonDecreasingBy (λ (i : Visible). i.stamp) l) (sym c.deref-2.ensures.value) (stamps_rise c.self.inside.items.items c.self.invariant)

pub returns-then-start-end : goal.returns-then-start-end
returns-then-start-end c =
    let items = c.self.inside.items.items in
    ap (λ (l : List Visible). take (c.count_below-end.result - c.count_below-start.result) (drop c.count_below-start.result l)) c.deref-then-start-end.ensures.value
    ∙ slice_between c.args.from c.args.below items c.count_below-start.result c.count_below-end.result c.if-start-end.true
    (subst (λ (l : List Visible). IsPartitionPoint (λ (y : Visible). ltb y.stamp c.args.from ≡ true) (λ (y : Visible). ltb y.stamp c.args.from ≡ false) l c.count_below-start.result) c.deref.ensures.value c.count_below-start.ensures.point)
    (subst (λ (l : List Visible). IsPartitionPoint (λ (y : Visible). ltb y.stamp c.args.below ≡ true) (λ (y : Visible). ltb y.stamp c.args.below ≡ false) l c.count_below-end.result) c.deref-2.ensures.value c.count_below-end.ensures.point)
    ∙ ap (filter (is_between c.args.from c.args.below)) c.self.view_is

pub returns-else-start-end : goal.returns-else-start-end
returns-else-start-end c =
    let items = c.self.inside.items.items in
    sym (none_between c.args.from c.args.below items c.count_below-start.result c.count_below-end.result c.if-start-end.false
    (subst (λ (l : List Visible). IsPartitionPoint (λ (y : Visible). ltb y.stamp c.args.from ≡ true) (λ (y : Visible). ltb y.stamp c.args.from ≡ false) l c.count_below-start.result) c.deref.ensures.value c.count_below-start.ensures.point)
    (subst (λ (l : List Visible). IsPartitionPoint (λ (y : Visible). ltb y.stamp c.args.below ≡ true) (λ (y : Visible). ltb y.stamp c.args.below ≡ false) l c.count_below-end.result) c.deref-2.ensures.value c.count_below-end.ensures.point))
    ∙ ap (filter (is_between c.args.from c.args.below)) c.self.view_is
