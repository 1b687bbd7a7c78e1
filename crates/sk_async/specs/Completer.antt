-- What a completer is, and what a turn answers and leaves.
use Rattle.std.specs.Prelude.{◌+◌, ℕ, Option, Some, None, nat_lt, if◌then◌else◌}

pub record Completer : Type 0 where
  -- at which turn a token is completed, counted from when it was handed; 0 is as 1
  pub turns : ℕ
  -- the turns since then; 0 where it holds none
  pub turned : ℕ
  -- the number of the token that it holds
  pub held : Option ℕ

-- what one more turn answers, by the token: its number, where this turn is the one of the number `turns` or a later one
abbrev pub due : Completer → Option ℕ → Option ℕ
due c None = None
due c (Some number) = if nat_lt (c.turned + 1) c.turns then None else Some number

-- what it is after that turn: the turn counts, or the token is gone
abbrev pub turned : Completer → Option ℕ → Completer
turned c None = c
turned c (Some number) =
    if nat_lt (c.turned + 1) c.turns then record c { turned = c.turned + 1 } else record c { turned = 0; held = None }
