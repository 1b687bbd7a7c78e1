-- What a Session is, after a talk.
use Rattle.std.specs.Prelude.{◌≡◌, ◌≤◌, ◌<◌, ◌+◌, ◌-◌, ◌*◌, ◌^◌, ◌⊎◌, ◌||◌, ℕ, Bool, true, nat_lt, nat_le, is_some, Option, Some, None, List, ◌++◌, length}
use Rattle.std.specs.List.{list_any}
use Rattle.sk_base.specs.Talk.{Said, taken, given}
use Rattle.sk_connection.specs.Connection as connection
use Rattle.sk_connection.specs.Talks.{is_end, IsHeldBack, IsPatient}
use Rattle.sk_pipe.specs.Pipe.{heard, end_of, pipe_out}
use Rattle.sk_pipe.specs.Run.{IsInStep, IsPipe, MayFollow, CountsFaults}
use Rattle.sk_pipe.specs.Hearing.{Hears}
use Rattle.sk_pipe.specs.Frames.{frames, due_after}
use Rattle.sk_pipe.specs.declared.ending.PipeEnding.{PipeEnding}
use Rattle.sk_pipe.specs.declared.session.Session.{Session}

-- the Session is where this talk leaves it
pub record Follows (name : List ℕ) (talk : List Said) (s : Session) : Type 0 where
  pub connection_is : connection.Follows (frames name s.peer.step s.peer.total s.sent) talk s.connection
  pub hears : Hears (heard (taken talk)) (end_of (taken talk)) s.peer
  pub due : s.sent ≤ due_after s.peer.begun s.peer.total
  pub not_full_at_end : list_any is_end talk ≡ true → length (taken talk) < 2 ^ 32
  pub in_step : IsInStep name s.peer.step s.peer.duration talk
  pub patient : IsPatient talk

-- after this talk the Session goes on, or the run ends so
abbrev pub IsAfter : List ℕ → List Said → Option PipeEnding → Session → Type 0
IsAfter name talk None s = Follows name talk s
IsAfter name talk (Some ended) s = IsPipe name s.peer.step s.peer.duration talk ended

-- the link's talk has grown, and the Session with it
abbrev pub GoesOn : List ℕ → List Said → List Said → List Said → Option PipeEnding → Session → Type 0
GoesOn name talk before now result s = (more : List Said) × (now ≡ before ++ more) × IsAfter name (talk ++ more) result s

-- the count of faults rose where the run ended by one, and stands still everywhere else
abbrev pub CountsSoFar : Option PipeEnding → ℕ → ℕ → Type 0
CountsSoFar None before now = now ≡ before
CountsSoFar (Some ended) before now = CountsFaults ended before now

-- How much the run may still do: what the link may still say, and the messages that are not queued yet, each of at most
-- 8,196 bytes with as many answers NotYet between two of them as may come in a row.
abbrev pub budget : Session → ℕ
budget s = connection.left s.connection + 8196 * (s.peer.total + 3 - s.sent) * 1048577

-- a take may come: one may follow, and all that is due was given, or a give since the last take answered NotYet
abbrev pub MayTake : List ℕ → List Said → Session → Type 0
MayTake name talk s = ((given talk ≡ pipe_out name s.peer.step s.peer.duration (taken talk)) ⊎ IsHeldBack talk) × MayFollow talk

-- between two calls of the link what was heard stays
pub record KeepsHeard (old new : Session) : Type 0 where
  pub peer : new.peer ≡ old.peer
  pub decoder : new.connection.decoder ≡ old.connection.decoder
  pub is_held : new.connection.is_held ≡ old.connection.is_held
  pub is_ended : new.connection.is_ended ≡ old.connection.is_ended

-- no take may follow
abbrev pub is_closed : Session → Bool
is_closed s = is_some s.peer.ending || s.connection.is_ended || nat_le (2 ^ 32) s.connection.decoder.fed

-- something is due to the peer
abbrev pub has_output : Session → Bool
has_output s = nat_lt 0 (length s.connection.queued) || nat_lt s.sent (due_after s.peer.begun s.peer.total)
