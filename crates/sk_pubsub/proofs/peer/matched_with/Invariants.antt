use Rattle.std.proofs.Common.{◌≡◌, take}
use Rattle.sk_pubsub.specs.Places.{at_place, matched_after}
use Rattle.sk_pubsub.proofs.peer.matched_with.Given as goal

abbrev pub invariant-loop-service : goal.invariant-loop-service
invariant-loop-service l = l.matched.items ≡ matched_after (take l.service-index l.own) (at_place l.peers l.peer).matched l.other
