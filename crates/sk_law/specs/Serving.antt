-- How the own services of a kept journal are changed and asked.
use Rattle.std.specs.Prelude.{◌≡◌, ℕ, Bool, true, false, not, ◌&&◌, ◌==◌, List, [], ◌∷◌, ◌++◌, filter, Some, None, slice_get, slice_index_or}
use Rattle.std.specs.List.{fold, list_any, range_with_len}
use Rattle.sk_msg.specs.declared.bus.LinFrame.{LinFrame}
use Rattle.sk_msg.specs.declared.bus.LinResponse.{LinResponse}
use Rattle.sk_msg.specs.declared.content.Content.{Content}
use Rattle.sk_msg.specs.declared.service.Service.{Service}
use Rattle.sk_lin.specs.Lin.{received_lin}
use Rattle.sk_pubsub.specs.Announcing.{Announcing, announced_by, has_match, refusal}
use Rattle.sk_rpc.specs.OpenCalls.{opened}
use Rattle.sk_rpc.specs.declared.open_call.OpenCall.{OpenCall}
use Rattle.sk_law.specs.declared.line.Line.{Line}
use Rattle.sk_law.specs.declared.memory.ServiceState.{ServiceState}
use Rattle.sk_law.specs.declared.memory.ServiceState.TheVariants as states
use Rattle.sk_law.specs.Order.{service_in, services_of}
use Rattle.sk_law.specs.Receivers.{admits, changed, with_noted}
use Rattle.sk_law.specs.Tied.{no_line}

-- ## What a message changes

-- a LIN controller takes the frame in
abbrev pub with_frame : LinFrame → ServiceState → ServiceState
with_frame frame (states.Lin lin) = states.Lin (received_lin frame lin)
with_frame frame at = at

-- a server has this call to answer
abbrev pub with_call : OpenCall → ServiceState → ServiceState
with_call call (states.Server calls) = states.Server (opened call calls)
with_call call at = at

-- each of these services keeps the response
abbrev pub all_noted : ℕ → ℕ → LinResponse → List ℕ → List ServiceState → List ServiceState
all_noted p service response numbers states = fold (λ at i. changed (with_noted p service response) i at) states numbers

-- ## Who takes a message

-- the service of this number admits it
abbrev pub takes : Content → List ServiceState → ℕ → Bool
takes m services number = admits m (slice_index_or services number states.Subscriber)

-- of these numbers those whose services admit it
abbrev pub takers_in : Content → List ServiceState → List ℕ → List ℕ
takers_in m services numbers = filter (takes m services) numbers

-- ## Who serves

-- this number is another's whose link isn't gone, and it announced what the own service of a number matches
abbrev pub serves : List Line → Announcing → ℕ → ℕ → ℕ → Bool
serves lines index own service p =
    (not (p == own) && not (slice_index_or lines p no_line).gone) && has_match (announced_by index p) (slice_get index.own service)

-- one of the numbers below a limit does
abbrev pub some_serve : List Line → Announcing → ℕ → ℕ → ℕ → Bool
some_serve lines index own service limit = list_any (serves lines index own service) (range_with_len 0 limit)

-- ## What is announced

-- a service that this message tells is the next one of this peer
abbrev pub IsNext : Announcing → ℕ → Content → Type 0
IsNext index p m = (service : Service) → service_in m ≡ Some service → refusal (announced_by index p) service ≡ None

-- a message of p, in order or not, was noted in the index
pub record IsIndexed (orderly : Bool) (p : ℕ) (m : Content) (old new : Announcing) : Type 0 where
  pub own : new.own ≡ old.own
  pub last : orderly ≡ true → announced_by new p ≡ announced_by old p ++ services_of (m ∷ [])
  pub rest : (q : ℕ) → (orderly && q == p) ≡ false → announced_by new q ≡ announced_by old q
