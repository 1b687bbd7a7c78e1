use Rattle.std.proofs.Common.{◌≡◌, ap}
use Rattle.sk_msg.specs.Matching.{matching}
use Rattle.sk_pubsub.specs.Announcing.{ids}
use Rattle.sk_pubsub.specs.Places.{AnnouncedValue, at_place, matched_after}
use Rattle.sk_pubsub.proofs.PlaceLaws.{matched_added, is_added}
use Rattle.sk_pubsub.proofs.MarkLaws.{marked_added}
use Rattle.sk_pubsub.proofs.receivers.Receivers.add.Goals as goal

pub invariant_of-self-2 : goal.invariant_of-self-2
invariant_of-self-2 c =
    let a = c.in_ok-announced.announced in
    let marks = c.in_ok-matched.matched.items in
    let own = c.self.inside.own.items in
    let old = c.self.inside.peers.items in
    let new = c.put.new.peers.items in
    let service = ap (λ (a : AnnouncedValue). a.service) c.in_ok-announced.ensures in
    let receivers = ap (λ (a : AnnouncedValue). a.receivers) c.in_ok-announced.ensures in
    let is : a.receivers ≡ ids (matching own a.service) = rw (service, ← c.deref-3.ensures.value) receivers in
    let marked : marks ≡ matched_after own (at_place old c.args.peer).matched a.service = rw (service, ← c.deref.ensures.value, ← c.deref-2.ensures.value) c.in_ok-matched.ensures in
    record {
      few = c.self.invariant.few;
      numbered = c.self.invariant.numbered;
      matched = matched_added c.args.peer a marks old new c.in_ok-put.ensures.added own is c.self.invariant.matched;
      marked = marked_added own c.args.peer a marks old new c.self.invariant.numbered marked c.self.invariant.marked c.in_ok-put.ensures.added;
    }

pub returns-clause-added : goal.returns-clause-added
returns-clause-added c =
    let a = c.in_ok-announced.announced in
    let service = ap (λ (a : AnnouncedValue). a.service) c.in_ok-announced.ensures in
    rw (← c.self.view_is) (is_added c.args.peer a c.in_ok-matched.matched.items c.self.inside.peers.items c.put.new.peers.items c.in_ok-put.ensures.added c.self.inside.own.items c.args.service service)
