-- What a Peer knows of the messages that it heard.
use Rattle.std.specs.Prelude.{◌≡◌, ℕ, Bool, true, false, nat_le, Option, Some, None, List, []}
use Rattle.std.specs.List.{list_any}
use Rattle.sk_msg.specs.declared.content.Content.{Content}
use Rattle.sk_pipe.specs.Pipe.{is_hello, is_unsynchronised_hello, is_leave, announces, orderly, end_among, or_fault, steps_begun}
use Rattle.sk_pipe.specs.declared.peer.PeerEnding.{PeerEnding}
use Rattle.sk_pipe.specs.declared.peer.PeerSync.{PeerSync}
use Rattle.sk_pipe.specs.declared.peer.PeerSync.TheVariants.{Unknown, Unsynchronised, Synchronised}
use Rattle.sk_pipe.specs.declared.peer.Peer.{Peer}

-- the messages of a peer that said Hello and hasn't left, synchronised or not
pub record IsPresent (ms : List Content) (unsynchronised : Bool) : Type 0 where
  pub hello : list_any is_hello ms ≡ true
  pub unsynchronised_is : list_any is_unsynchronised_hello ms ≡ unsynchronised
  pub stays : list_any is_leave ms ≡ false

-- it has announced nothing, or this last
abbrev pub Announced : List Content → Option ℕ → Type 0
Announced ms None = (t : ℕ) → list_any (announces t) ms ≡ false
Announced ms (Some last) = (t : ℕ) → list_any (announces t) ms ≡ nat_le t last

abbrev pub IsSyncAfter : List Content → PeerSync → Type 0
IsSyncAfter ms Unknown = ms ≡ []
IsSyncAfter ms Unsynchronised = IsPresent ms true
IsSyncAfter ms (Synchronised last) = IsPresent ms false × Announced ms last

-- the Peer heard these messages in order, and they ended so
pub record Hears (ms : List Content) (ending : Option PeerEnding) (peer : Peer) : Type 0 where
  pub ending_is : peer.ending ≡ ending
  pub begun_is : peer.begun ≡ steps_begun peer.step peer.duration ms
  pub sync_is : ending ≡ None → IsSyncAfter ms peer.sync

-- the Peer heard ms behind those before
abbrev pub IsHeardAs : List Content → List Content → Peer → Type 0
IsHeardAs before ms peer = Hears (orderly before ms) (end_among before ms) peer

-- and the messages of a piece, with bytes that are no message behind them where that is true
abbrev pub HearsPiece : List Content → List Content → Bool → Peer → Type 0
HearsPiece before ms bad peer = Hears (orderly before ms) (or_fault (end_among before ms) bad) peer

-- the plan stays
pub record KeepsPlan (old new : Peer) : Type 0 where
  pub step : new.step ≡ old.step
  pub duration : new.duration ≡ old.duration
  pub total : new.total ≡ old.total
