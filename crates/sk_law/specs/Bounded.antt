-- What is put to each number stays bounded.
use Rattle.std.specs.Prelude.{◌≡◌, ◌<◌, ◌≤◌, ◌⊎◌, ℕ, ◌+◌, ◌*◌, true, List, length}
use Rattle.sk_msg.specs.declared.entry.Entry.{Entry}
use Rattle.sk_law.specs.declared.made.Made.{Made}
use Rattle.sk_law.specs.declared.setup.Setup.{Setup}
use Rattle.sk_law.specs.Past.{Past}
use Rattle.sk_law.specs.Readings.{state_of, put}
use Rattle.sk_law.specs.Receivers.{is_over}
use Rattle.sk_law.specs.Blocks.{judge_limits}
use Rattle.sk_law.specs.Lawful.{Happens}
use Rattle.sk_law.specs.Ends.{states_left}

-- how many messages one thing that happens puts to one number, at most: a message is handed to each own service once, each call
-- is answered with 256 actions and a fault, of which each action puts three messages and the fault two; and three more stand
-- behind it
abbrev pub puts_at_once : Setup → ℕ
puts_at_once S = 770 * length S.services + 773

-- the state is the same, and nothing was put to a participant
pub record IsStill (S : Setup) (past now : Past) : Type 0 where
  pub state : state_of now.journal ≡ state_of past.journal
  pub none : (p : ℕ) → p < length S.names → put now.journal p ≡ put past.journal p

-- the law: at most so much is put at once, whatever happens; and where nothing is handed any more, in Error, Aborting and
-- Shutdown, nothing is put to a participant, unless the state goes on
pub record PutsBounded : Type 0 where
  pub within : (es : List Entry) (p : ℕ) → length (put es p) ≤ length es
  pub at_once : (S : Setup) (past now : Past) (made : List Made) (p : ℕ) → Happens S past made now →
      length (put (judge_limits S now).journal p) ≤ length (put past.journal p) + puts_at_once S
  pub states : (S : Setup) (past now : Past) (made : List Made) → Happens S past made now →
      states_left (state_of (judge_limits S now).journal) ≤ states_left (state_of past.journal)
  pub over : (S : Setup) (past now : Past) (made : List Made) → is_over (state_of past.journal) ≡ true → Happens S past made now →
      IsStill S past (judge_limits S now) ⊎ (states_left (state_of (judge_limits S now).journal) < states_left (state_of past.journal))
