-- What is kept of each peer, by its number.
use Rattle.std.specs.Prelude.{◌≡◌, ◌≢◌, ℕ, Bool, false, ◌||◌, List, [], ◌∷◌, ◌++◌, map, slice_index_or}
use Rattle.sk_msg.specs.Matching.{match_services}
use Rattle.sk_msg.specs.declared.service.Service.{Service}

-- an announced service, and the numbers of the own services that match it
pub record AnnouncedValue : Type 0 where
  pub service : Service
  pub receivers : List ℕ

-- what is kept of one peer
pub record PeerValue : Type 0 where
  -- in the order of their numbers
  pub announced : List AnnouncedValue
  -- at the number of each own service, whether it matches one of these
  pub matched : List Bool

-- one that has announced nothing
abbrev pub new_peer : PeerValue
new_peer = record { announced = []; matched = [] }

-- what it announced
abbrev pub services_of : PeerValue → List Service
services_of peer = map (λ a. a.service) peer.announced

-- the peer of this number, which has announced nothing where it has no place
abbrev pub at_place : List PeerValue → ℕ → PeerValue
at_place places p = slice_index_or places p new_peer

-- which of the own services match, once this one was announced too
abbrev pub matched_after : List Service → List Bool → Service → List Bool
matched_after own matched other = map (λ s. slice_index_or matched s.id false || match_services s other) own

-- one more at this place, and nothing else at any other
pub record HasOneMore (at : ℕ) (announced : AnnouncedValue) (matched : List Bool) (old new : List PeerValue) : Type 0 where
  pub last : at_place new at ≡ record { announced = (at_place old at).announced ++ announced ∷ []; matched = matched }
  pub others : (p : ℕ) → p ≢ at → at_place new p ≡ at_place old p

-- this peer at this place, and nothing else at any other
pub record IsPutBehind (at : ℕ) (peer : PeerValue) (old new : List PeerValue) : Type 0 where
  pub here : at_place new at ≡ peer
  pub others : (p : ℕ) → p ≢ at → at_place new p ≡ at_place old p
