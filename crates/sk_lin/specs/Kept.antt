-- The responses that a LIN controller keeps: at most one of each identifier and source, in the order of these. So what
-- is kept doesn't depend on the order in which responses of different identifiers or sources came.
use Rattle.std.specs.Prelude.{ℕ, suc, ◌+◌, ◌==◌, Bool, ◌&&◌, ◌||◌, List, [], ◌∷◌, nat_lt, if◌then◌else◌}
use Rattle.sk_msg.specs.declared.bus.LinResponse.{LinResponse}
use Rattle.sk_lin.specs.declared.kept.Kept.{Kept}
use Rattle.sk_lin.specs.declared.kept.Source.{Source}
use Rattle.sk_lin.specs.declared.kept.Source.TheVariants.{Own, Noted}

-- of sources the own one comes first, then the noted ones by peer and service: the peer's rank counts most
abbrev pub peer_rank : Source → ℕ
peer_rank Own = 0
peer_rank (Noted peer service) = peer + 1

-- and then the service's
abbrev pub service_rank : Source → ℕ
service_rank Own = 0
service_rank (Noted peer service) = service

-- by identifier, then by source
abbrev pub is_before : Kept → Kept → Bool
is_before a b =
    nat_lt a.response.id b.response.id
    || (a.response.id == b.response.id && (nat_lt (peer_rank a.source) (peer_rank b.source)
    || (peer_rank a.source == peer_rank b.source && nat_lt (service_rank a.source) (service_rank b.source))))

-- the one is of the same identifier and source as the other
abbrev pub is_in_place_of : Kept → Kept → Bool
is_in_place_of a b =
    a.response.id == b.response.id
    && (peer_rank a.source == peer_rank b.source && service_rank a.source == service_rank b.source)

-- in its place in the order, instead of the earlier one of its identifier and source
abbrev pub keep : Kept → List Kept → List Kept
keep new [] = new ∷ []
keep new (old ∷ kept) =
    if is_before old new then old ∷ keep new kept else
    if is_in_place_of old new then new ∷ kept else new ∷ old ∷ kept

-- a response of the controller itself
abbrev pub own : LinResponse → Kept
own response = record { source = Own; response = response }

-- how many of these stand before a new one
abbrev pub place : Kept → List Kept → ℕ
place new [] = 0
place new (old ∷ kept) = if is_before old new then suc (place new kept) else 0
