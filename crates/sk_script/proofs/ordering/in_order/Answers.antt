use Rattle.std.proofs.Common.{◌∙◌, sym, ap}
use Rattle.sk_script.specs.Placing.{put_in_place, in_order}
use Rattle.sk_script.proofs.PlacingLaws.{put_last}
use Rattle.sk_script.proofs.ordering.in_order.Goals as goal

pub loop-one-init : goal.loop-one-init
unfolding in_order
loop-one-init c = c.in_ok-ordered.ensures.items

pub loop-one-preserved : goal.loop-one-preserved
loop-one-preserved c = c.in_ok-put_in_place.ensures ∙ ap (put_in_place c.in-Some.one) c.loop-one.invariant ∙ sym (put_last _ _)
