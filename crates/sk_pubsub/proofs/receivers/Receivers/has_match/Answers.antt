use Rattle.std.proofs.Common.{◌∙◌, false, ap, slice_index_or}
use Rattle.sk_pubsub.specs.Places.{at_place}
use Rattle.sk_pubsub.proofs.MarkLaws.{is_marked}
use Rattle.sk_pubsub.proofs.receivers.Receivers.has_match.Goals as goal

pub returns : goal.returns
returns c =
    rw (← c.self.view_is)
    (c.is_matched_at.ensures
    ∙ ap (λ places. slice_index_or (at_place places c.args.peer).matched c.args.own false) c.deref.ensures.value
    ∙ is_marked c.self.inside.own.items c.self.inside.peers.items c.args.peer c.args.own (c.self.invariant.marked c.args.peer))
