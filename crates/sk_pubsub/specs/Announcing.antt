-- The own services, what the peers announced, and which own services match it.
use Rattle.std.specs.Prelude.{◌≡◌, ◌≢◌, ℕ, ◌+◌, ◌==◌, nat_le, slice_index_or, Bool, true, false, not, ◌&&◌, List, [], ◌∷◌, ◌++◌, map, length, Option, Some, None, if◌then◌else◌, ◌⊎◌, Result, Err}
use Rattle.std.specs.List.{list_any}
use Rattle.sk_msg.specs.Matching.{match_services, matching}
use Rattle.sk_msg.specs.declared.service.Service.{Service}
use Rattle.sk_pubsub.specs.declared.add_refused.AddRefused.{AddRefused}
use Rattle.sk_pubsub.specs.declared.add_refused.AddRefused.TheVariants.{Full, OutOfOrder, WantOfMemory}

-- what contracts see of `Receivers`
pub record Announcing : Type 0 where
  pub own : List Service
  -- at each peer's number what it announced, in order
  pub announced : List (List Service)

-- the numbers go on by one from this one
abbrev pub are_numbered : ℕ → List Service → Bool
are_numbered next [] = true
are_numbered next (s ∷ services) = s.id == next && are_numbered (next + 1) services

-- the numbers of these services
abbrev pub ids : List Service → List ℕ
ids services = map (λ s. s.id) services

-- the own services that match the announced one, by their numbers; none where nothing was announced
abbrev pub receivers_of : List Service → Option Service → List ℕ
receivers_of own None = []
receivers_of own (Some other) = ids (matching own other)

-- the own service matches one of the announced ones
abbrev pub has_match : List Service → Option Service → Bool
has_match announced None = false
has_match announced (Some own) = list_any (match_services own) announced

-- no peer has announced anything
abbrev pub nothing_announced : List Service → Announcing
nothing_announced own = record { own = own; announced = [] }

-- what the peer of this number announced, in order
abbrev pub announced_by : Announcing → ℕ → List Service
announced_by a peer = slice_index_or a.announced peer []

-- the peer has announced one more service, and nothing else is changed
pub record IsAdded (peer : ℕ) (service : Service) (old new : Announcing) : Type 0 where
  pub own : new.own ≡ old.own
  pub last : announced_by new peer ≡ announced_by old peer ++ service ∷ []
  pub others : (other : ℕ) → other ≢ peer → announced_by new other ≡ announced_by old other

-- why the service of a peer that has announced these is refused: there are 64; else its number isn't the next one
abbrev pub refusal : List Service → Service → Option AddRefused
refusal announced service =
    if nat_le 64 (length announced) then Some Full else
    if not (service.id == length announced) then Some (OutOfOrder (length announced)) else
    None

-- a reason against the call is its answer
abbrev pub AnswersReason : {X : Type 0} → Option AddRefused → Result X AddRefused → Type 0
AnswersReason against result = (reason : AddRefused) → against ≡ Some reason → result ≡ Err reason

-- besides the reason against the call there is want of memory alone
abbrev pub IsReason : Option AddRefused → AddRefused → Type 0
IsReason against reason = (reason ≡ WantOfMemory) ⊎ (against ≡ Some reason)
