-- What the fields of `Receivers` stand for.
use Rattle.std.specs.Prelude.{◌≡◌, ◌≤◌, ℕ, false, List, map, length, slice_get, slice_index_or, IsTrue}
use Rattle.std.specs.List.{AllByRecursion}
use Rattle.sk_msg.specs.Matching.{matching}
use Rattle.sk_msg.specs.declared.service.Service.{Service}
use Rattle.sk_pubsub.specs.Announcing.{Announcing, ids, are_numbered, has_match}
use Rattle.sk_pubsub.specs.Places.{AnnouncedValue, PeerValue, services_of, at_place}
use Rattle.sk_pubsub.specs.declared.receivers.Receivers.TheInside.{Inside}

-- what was announced, without what is kept with it
abbrev pub announcing_of : Inside → Announcing
announcing_of r = record { own = r.own.items; announced = map services_of r.peers.items }

-- with each announced service stand the numbers of the own services that match it
abbrev pub AreMatched : List Service → List AnnouncedValue → Type 0
AreMatched own announced = AllByRecursion (λ a. a.receivers ≡ ids (matching own a.service)) announced

-- at the number of each own service stands whether it matches something
abbrev pub IsMarked : List Service → PeerValue → Type 0
IsMarked own peer = (number : ℕ) → slice_index_or peer.matched number false ≡ has_match (services_of peer) (slice_get own number)

-- what holds of the fields between calls
pub record IsKept (r : Inside) : Type 0 where
  pub few : length r.own.items ≤ 64
  pub numbered : IsTrue (are_numbered 0 r.own.items)
  pub matched : (peer : ℕ) → AreMatched r.own.items (at_place r.peers.items peer).announced
  pub marked : (peer : ℕ) → IsMarked r.own.items (at_place r.peers.items peer)
