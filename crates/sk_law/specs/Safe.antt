-- What a run promises: whoever begins a step was handed before, once and in order, what the others sent in earlier steps.
use Rattle.std.specs.Prelude.{◌≡◌, ◌≢◌, ◌<◌, ◌≤◌, ◌⊎◌, ℕ, ◌+◌, ◌&&◌, ◌==◌, IsTrue, IsSome, IsSomeAnd, List, ◌∷◌, ◌++◌, length, Option, Some, None, slice_get, if◌then◌else◌}
use Rattle.std.specs.List.{filter_map}
use mathlib.Core.List.{IsPrefix}
use Rattle.sk_msg.specs.declared.content.Content.{Content}
use Rattle.sk_msg.specs.Edges.{IsWalk}
use Rattle.sk_msg.specs.Heads.{head_of}
use Rattle.sk_msg.specs.declared.entry.Entry.{Entry}
use Rattle.sk_msg.specs.declared.entry.Entry.TheVariants.{Begin, Hand}
use Rattle.sk_law.specs.declared.setup.Setup.{Setup}
use Rattle.sk_law.specs.declared.made.Made.{Made}
use Rattle.sk_law.specs.Past.{Past}
use Rattle.sk_law.specs.Blocks.{get, judge_limits}
use Rattle.sk_law.specs.Lawful.{Lawful, Happens, Leads}
use Rattle.sk_law.specs.Readings.{got, put, states}
use Rattle.sk_law.specs.Order.{has_left, announced_of}
use Rattle.sk_law.specs.Links.{from, has_announced}
use Rattle.sk_law.specs.Receivers.{receivers}
use Rattle.sk_law.specs.World.{Member}

-- the receivers that stand in the Hands of p's message at this place
abbrev pub hand_of : ℕ → ℕ → Entry → Option ℕ
hand_of p place (Hand q k r) = if q == p && k == place then Some r else None
hand_of p place _ = None

-- all of them, in order
abbrev pub hands : List Entry → ℕ → ℕ → List ℕ
hands es p place = filter_map (hand_of p place) es

-- a message of a step before t
abbrev pub WasSentBefore : ℕ → Content → Type 0
WasSentBefore t m = IsSomeAnd (head_of m) (λ s. (0 < s.mark) × (s.stamp < t))

-- p has announced t or later, or has left
abbrev pub HasAnnounced : Setup → Past → ℕ → ℕ → Type 0
HasAnnounced S past p t =
    IsTrue (has_announced t (announced_of (from S past p))) ⊎ IsTrue (has_left (from S past p))

-- the message at this place was got before, and all to which that led stands before; it was handed to each of its receivers
-- once, before, and to nobody else
pub record WasHanded (S : Setup) (past : Past) (made : List Made) (before : List Entry) (p place : ℕ) (m : Content) : Type 0 where
  -- what had happened before its Got, with the calls until then
  pub at : Past
  pub calls : List Made
  pub lawful : Lawful S at calls
  -- the calls with the message: the Hands, the answers and what a LinResponse changes are all before this point
  pub meanwhile : List Made
  pub happens : Happens S at meanwhile (get S p m meanwhile at)
  pub front : IsPrefix (get S p m meanwhile at).journal before
  -- from there it goes on to what has happened
  pub rest : List Made
  pub leads : Leads S (judge_limits S (get S p m meanwhile at)) rest past
  pub called : calls ++ (meanwhile ++ rest) ≡ made
  pub place_is : length (got at.journal p) ≡ place
  pub once : hands past.journal p (place + 1) ≡ receivers S at p m
  pub early : hands before p (place + 1) ≡ hands past.journal p (place + 1)

-- of one participant q and a synchronised peer p of it, which put these messages to q
pub record IsSafeAt (S : Setup) (past : Past) (made : List Made) (p : ℕ) (puts : List Content) : Type 0 where
  pub announced : (before after : List Entry) (n t : ℕ) → past.journal ≡ before ++ Begin n t ∷ after →
      HasAnnounced S (record past { journal = before }) p t
  pub handed : (before after : List Entry) (n t place : ℕ) (m : Content) → past.journal ≡ before ++ Begin n t ∷ after →
      slice_get puts place ≡ Some m → WasSentBefore t m → WasHanded S past made before p place m

-- the Hands of earlier messages of p stand before those of later ones
abbrev pub AreInOrder : List Entry → ℕ → Type 0
AreInOrder es p = (before between after : List Entry) (k j r s : ℕ) → es ≡ before ++ Hand p k r ∷ (between ++ Hand p j s ∷ after) → k ≤ j

-- a safe world
pub record IsSafe (members : List Member) : Type 0 where
  pub pairs : (p q : ℕ) (sender receiver : Member) → slice_get members p ≡ Some sender → slice_get members q ≡ Some receiver →
      (p ≢ q) → IsSome sender.setup.step → IsSafeAt receiver.setup receiver.past receiver.made p (put sender.past.journal q)
  pub ordered : (p q : ℕ) (receiver : Member) → slice_get members q ≡ Some receiver → AreInOrder receiver.past.journal p
  pub rules : (q : ℕ) (member : Member) → slice_get members q ≡ Some member → Lawful member.setup member.past member.made
  pub walks : (q : ℕ) (member : Member) → slice_get members q ≡ Some member → IsWalk (states member.past.journal)
