use Rattle.std.proofs.Common.{◌≡◌, ◌≢◌, rules}
use borrow.Author.Tests.{tests}
use Rattle.std.proofs.lemmas.Iterator.{IsFirst-from_position, YieldsList-from_slice}
use Rattle.sk_timesync.specs.Notes.{PeerNotes}
use Rattle.sk_timesync.proofs.PeerLaws.{is_found}
use Rattle.sk_timesync.proofs.steps.index_of.Goals as goal

pub unwrap-requires : goal.unwrap-requires
unwrap-requires c =
    is_found c.args.peers.now c.args.number c.position.result _ c.requires
    (IsFirst-from_position _ _ c.position.result (λ (peer : PeerNotes). peer.number ≡ c.args.number) (λ (peer : PeerNotes). peer.number ≢ c.args.number) c.position.ensures.ran (YieldsList-from_slice c.args.peers.now (cc)) (λ x q k. search (rules, tests)) (λ x q k. search (rules, tests)))
