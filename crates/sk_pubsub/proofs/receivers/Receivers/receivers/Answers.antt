use Rattle.std.proofs.Common.{◌∙◌}
use Rattle.sk_pubsub.proofs.PlaceLaws.{receivers_kept, no_receivers}
use Rattle.sk_pubsub.proofs.RisingLaws.{receivers_rise}
use Rattle.sk_pubsub.proofs.receivers.Receivers.receivers.Goals as goal

pub returns-in-Some-clause-value : goal.returns-in-Some-clause-value
returns-in-Some-clause-value c =
    let kept = receivers_kept c.self.inside.own.items c.self.inside.peers.items c.args.peer c.args.service c.in-Some.announced.now (c.self.invariant.matched c.args.peer) (rw (← c.deref.ensures.value) c.in-Some.ensures) in
    rw (← c.self.view_is) (c.receivers.ensures ∙ kept)

pub returns-in-Some-clause-rising : goal.returns-in-Some-clause-rising
returns-in-Some-clause-rising c =
    let kept = receivers_kept c.self.inside.own.items c.self.inside.peers.items c.args.peer c.args.service c.in-Some.announced.now (c.self.invariant.matched c.args.peer) (rw (← c.deref.ensures.value) c.in-Some.ensures) in
    receivers_rise c.receivers.result.now c.self.inside.own.items _ (c.receivers.ensures ∙ kept) c.self.invariant.numbered

pub returns-in-None-clause-value : goal.returns-in-None-clause-value
returns-in-None-clause-value c =
    rw (← c.self.view_is) (no_receivers c.self.inside.own.items c.self.inside.peers.items c.args.peer c.args.service (rw (← c.deref.ensures.value) c.in-None.ensures))
