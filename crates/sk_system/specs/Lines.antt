-- The lines that the tools print, without their newlines.
use Rattle.std.specs.Prelude.{ℕ, List, [], ◌∷◌, ◌++◌, codes, if◌then◌else◌}
use Rattle.sk_msg.specs.declared.state.State.{State}
use Rattle.sk_msg.specs.States.{is_state}
use Rattle.sk_msg.specs.StateNames.{state_name}

-- `NAME STATE`: a participant told its state
unfoldable pub state_line : List ℕ → State → List ℕ
state_line name state = name ++ codes " " ++ state_name state

-- `left NAME`: it left
unfoldable pub left_line : List ℕ → List ℕ
left_line name = codes "left " ++ name

-- `lost NAME`: its link ended before that
unfoldable pub lost_line : List ℕ → List ℕ
lost_line name = codes "lost " ++ name

-- `system STATE`: the state of the whole simulation
unfoldable pub system_line : State → List ℕ
system_line state = codes "system " ++ state_name state

-- a line for the system state, where it isn't that of the last such line
abbrev pub system_lines : State → State → List (List ℕ)
system_lines last state = if is_state last state then [] else system_line state ∷ []
