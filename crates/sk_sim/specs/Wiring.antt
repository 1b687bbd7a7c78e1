-- What waits in a seat, and what ties its participant to its rings.
use Rattle.std.specs.Prelude.{◌≡◌, ◌≢◌, ◌<◌, ◌≤◌, ℕ, ◌+◌, ◌*◌, ◌==◌, true, false, List, [], ◌++◌, length, drop, Option, None, slice_index_or, option_to_list}
use Rattle.std.specs.List.{list_all}
use Rattle.sk_msg.specs.declared.content.Content.{Content}
use Rattle.sk_msg.specs.declared.state.State.TheVariants.{Error}
use Rattle.sk_msg.specs.Edges.{has_edge}
use Rattle.sk_law.specs.declared.made.Made.{Made}
use Rattle.sk_law.specs.Readings.{state_of, got, put, gones}
use Rattle.sk_law.specs.Ends.{states_left}
use Rattle.sk_law.specs.Lawful.{Lawful}
use Rattle.sk_law.specs.Links.{is_peer}
use Rattle.sk_law.specs.Kept.{Kept}
use Rattle.sk_node.specs.Known.{Known}
use Rattle.sk_mesh.specs.Places.{Account, place, size, IsPeer}
use Rattle.sk_mesh.specs.Ends.{pushed, popped, room}
use Rattle.sk_sim.specs.declared.wired.Wired.{Wired}

-- how many messages were taken out for this number
abbrev pub out_of : Kept → ℕ → ℕ
out_of kept q = slice_index_or kept.out q 0

-- what waits for this number: what its ring handed back, then what wasn't taken out yet
abbrev pub waits_of : Kept → Option Content → ℕ → List Content
waits_of kept held q = option_to_list held ++ drop (out_of kept q) (put kept.past.journal q)

-- the message that the ring to this number handed back
abbrev pub held_at : List (Option Content) → ℕ → Option Content
held_at held q = slice_index_or held q None

-- the same of all that stands
abbrev pub waits : Wired → ℕ → List Content
waits a q = waits_of a.node.kept (held_at a.held.items q) q

-- no more happened than that messages were taken out, for this number alone
pub record OnlyOut (a b : Known) (p : ℕ) : Type 0 where
  pub setup : b.kept.setup ≡ a.kept.setup
  pub past : b.kept.past ≡ a.kept.past
  pub poisoned : b.poisoned ≡ a.poisoned
  pub count : length b.kept.out ≡ length a.kept.out
  pub out : (q : ℕ) → q ≢ p → out_of b.kept q ≡ out_of a.kept q

-- through these ends nothing went yet, and each ring has room
pub record IsFresh (a : Account) : Type 0 where
  pub pushed : (q : ℕ) → pushed a q ≡ []
  pub popped : (q : ℕ) → popped a q ≡ []
  pub roomy : (q : ℕ) → IsPeer (place a) q → 0 < room (place a) q

-- what ties the participant to its rings: who it is, there and here; per peer, the messages got are those popped, and those put
-- are those pushed followed by those that wait; no link was lost but for a message out of order; it has at most 64 services, and
-- its journal is below its limit while its state has an edge to Error
pub record IsTied (a : Wired) : Type 0 where
  pub sound : a.node.poisoned ≡ false
  pub own : a.ends.number ≡ a.node.kept.setup.number
  pub within : a.node.kept.setup.number < length a.node.kept.setup.names
  pub ways : size (place a.ends) ≡ length a.node.kept.setup.names
  pub least : size (place a.ends) ≤ 32
  pub out_is : length a.node.kept.out ≡ size (place a.ends)
  pub held_is : length a.held.items ≡ size (place a.ends)
  pub alone : a.node.kept.past.memory.tools ≡ []
  pub got_is : (p : ℕ) → got a.node.kept.past.journal p ≡ popped a.ends p
  pub silent : got a.node.kept.past.journal a.ends.number ≡ []
  pub put_is : (q : ℕ) → put a.node.kept.past.journal q ≡ pushed a.ends q ++ waits a q
  pub taken : (q : ℕ) → out_of a.node.kept q ≤ length (put a.node.kept.past.journal q)
  pub refused : (p : ℕ) → list_all (λ reason. reason == 8) (gones a.node.kept.past.journal p) ≡ true
  pub unlost : (p : ℕ) → is_peer a.node.kept.setup p ≡ false → gones a.node.kept.past.journal p ≡ []
  pub services : length a.node.kept.setup.services ≤ 64
  pub short : has_edge (state_of a.node.kept.past.journal) Error ≡ true → length a.node.kept.past.journal < 500000
  pub roomy : (q : ℕ) → IsPeer (place a.ends) q → 0 < room (place a.ends) q

-- between two turns: the journal is lawful with some calls of the app, and with 1,700,000 messages for each state that is still to
-- come at most 5,600,000 were put to each participant. For a turn puts at most so many to one number; while the limits are
-- judged less than 500,000 were put; and afterwards each turn that puts something leads to a further state, of which there are
-- two at most
pub record IsBounded (kept : Kept) : Type 0 where
  pub lawful : ∥ ((made : List Made) × Lawful kept.setup kept.past made) ∥₁
  pub few : (q : ℕ) → q < length kept.setup.names →
      length (put kept.past.journal q) + 1700000 * states_left (state_of kept.past.journal) ≤ 5600000
