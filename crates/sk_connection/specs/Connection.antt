-- What one link keeps, what each answer of the link does to it, and where a talk leaves it.
use Rattle.std.specs.Prelude.{◌≡◌, ◌+◌, ◌-◌, ◌*◌, ◌^◌, ◌≤◌, ◌<◌, ℕ, Bool, true, false, min, Option, List, [], ◌∷◌, ◌++◌, length, drop, if◌then◌else◌}
use Rattle.std.specs.List.{list_any}
use mathlib.Core.List.{IsPrefix}
use Rattle.sk_base.specs.Talk.{Said, Taken, NoneGiven, taken, given, said_by_take, said_by_give}
use Rattle.sk_base.specs.declared.link.Took.{Took}
use Rattle.sk_base.specs.declared.link.Took.TheVariants as took
use Rattle.sk_base.specs.declared.link.Gave.{Gave}
use Rattle.sk_base.specs.declared.link.Gave.TheVariants as gave
use Rattle.sk_msg.specs.declared.content.Content.{Content}
use Rattle.sk_wire.specs.declared.fault.WireFault.{WireFault}
use Rattle.sk_wire.specs.Parts.{messages, fault}
use Rattle.sk_wire.specs.Feeding.{Waiting, fed_with}
use Rattle.sk_connection.specs.Talks.{is_end, waiting, IsHeldBack}

pub record Connection : Type 0 where
  -- what was fed of the bytes taken: all of them
  pub decoder : Waiting
  -- the bytes that wait to be given
  pub queued : List ℕ
  -- how many answers NotYet came in a row, up to 1,048,576
  pub waits : ℕ
  -- a give since the last take answered NotYet
  pub is_held : Bool
  -- a take answered End
  pub is_ended : Bool

-- nothing was said or queued yet
abbrev pub fresh : Connection
fresh = record { decoder = fed_with []; queued = []; waits = 0; is_held = false; is_ended = false }

-- these bytes are queued too
abbrev pub with_queued : List ℕ → Connection → Connection
with_queued bytes c = record c { queued = c.queued ++ bytes }

-- how long the frame of a message may be
abbrev pub IsFrameLong : ℕ → Type 0
IsFrameLong n = (6 ≤ n) × (n ≤ 8196)

abbrev pub one_wait_more : ℕ → ℕ
one_wait_more waits = min 1048576 (waits + 1)

-- after a give
abbrev pub after_give : Gave → Connection → Connection
after_give (gave.Bytes count) c = record c { queued = drop count c.queued; waits = 0 }
after_give gave.NotYet c = record c { waits = one_wait_more c.waits; is_held = true }

-- after a take that left the decoder so
abbrev pub after_take : Took → Waiting → Connection → Connection
after_take (took.Bytes count) decoder c = record c { decoder = decoder; waits = 0; is_held = false }
after_take took.NotYet decoder c = record c { waits = one_wait_more c.waits; is_held = false }
after_take took.End decoder c = record c { waits = 0; is_held = false; is_ended = true }

-- this talk leaves the connection so, where these bytes were queued in all
pub record Follows (all : List ℕ) (talk : List Said) (c : Connection) : Type 0 where
  pub decoder_is : c.decoder ≡ fed_with (taken talk)
  pub given_is : given talk ++ c.queued ≡ all
  pub waits_is : c.waits ≡ min 1048576 (waiting talk)
  pub held_is : c.is_held ≡ true → IsHeldBack talk
  pub refused_is : (front : List Said) → talk ≡ front ++ NoneGiven ∷ [] → c.is_held ≡ true
  pub ended_is : c.is_ended ≡ list_any is_end talk

-- whatever was said before, these bytes were queued too
abbrev pub FollowsMore : List ℕ → Connection → Connection → Type 0
FollowsMore more old new = (all : List ℕ) (talk : List Said) → Follows all talk old → Follows (all ++ more) talk new

-- whatever was said before, it follows the talk on through this give
abbrev pub FollowsGive : Gave → Connection → Connection → Type 0
FollowsGive gave old new =
    (all : List ℕ) (talk : List Said) → Follows all talk old → Follows all (talk ++ said_by_give gave old.queued ∷ []) new

-- a take behind this talk said this, with these messages and this fault: those of all bytes taken, without the messages before
pub record FollowsSaid (all : List ℕ) (talk : List Said) (said : Said) (found : List Content) (broken : Option WireFault) (c : Connection) : Type 0 where
  pub follows : Follows all (talk ++ said ∷ []) c
  pub messages_are : messages (taken (talk ++ said ∷ [])) ≡ messages (taken talk) ++ found
  pub fault_is : broken ≡ fault (taken (talk ++ said ∷ []))

-- whatever was said before, it follows the talk on through this take
abbrev pub FollowsTake : Took → List ℕ → Connection → List Content → Option WireFault → Connection → Type 0
FollowsTake took buffer old found broken new =
    (all : List ℕ) (talk : List Said) → Follows all talk old → FollowsSaid all talk (said_by_take took buffer) found broken new

-- these bytes were taken and not read: read or not, they only add messages
pub record IsLost (took : Took) (buffer : List ℕ) : Type 0 where
  pub piece : List ℕ
  pub said : said_by_take took buffer ≡ Taken piece
  pub grows : (bytes : List ℕ) → IsPrefix (messages bytes) (messages (bytes ++ piece))

-- How much may still be said: each answer but NotYet uses up a byte that waits, one of the 2^32 that are taken, or the end;
-- and at most 1,048,576 answers NotYet come between two of these.
abbrev pub left : Connection → ℕ
left c = (length c.queued + (2 ^ 32 - c.decoder.fed) + (if c.is_ended then 0 else 1)) * 1048577 + (1048576 - c.waits)

-- neither End nor 2^32 bytes were taken
abbrev pub MayTake : Connection → Type 0
MayTake c = (c.is_ended ≡ false) × (c.decoder.fed < 2 ^ 32)

-- less may still be said, unless that was the last answer NotYet that may come in a row
abbrev pub LessLeft : Connection → Connection → Type 0
LessLeft old new = new.waits < 1048576 → left new < left old
