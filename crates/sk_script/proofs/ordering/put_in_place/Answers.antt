use Rattle.std.proofs.Common.{◌∙◌, ap}
use Rattle.std.specs.List.{insert}
use Rattle.sk_script.specs.Placing.{place}
use Rattle.sk_script.proofs.PlacingLaws.{put_at}
use Rattle.sk_script.proofs.ordering.put_in_place.Goals as goal

pub returns : goal.returns
returns c =
    let ordered = c.args.ordered.now.items in
    let at = c.place_of-place.ensures.place ∙ ap (place c.args.part) c.deref.ensures.value in
    c.in_ok-insert.ensures.items ∙ ap (λ n. insert ordered n c.args.part) at ∙ put_at c.args.part ordered
