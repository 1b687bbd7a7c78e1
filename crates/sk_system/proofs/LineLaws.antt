-- No line where the system state is that of the last line.
use Rattle.std.proofs.Common.{◌≡◌, true, [], refl, eq-eqb}
use Rattle.sk_msg.specs.declared.state.State.{State}
use Rattle.sk_msg.specs.States.{state_number, is_state}
use Rattle.sk_system.specs.Lines.{system_lines}

pub is_state-self : (state : State) → is_state state state ≡ true
unfolding is_state
is_state-self state = eq-eqb (state_number state) (state_number state) refl

pub system_lines-same : (state : State) → system_lines state state ≡ []
system_lines-same state = rw (is_state-self state) refl

pub ruleset unchanged = (system_lines-same, is_state-self)
