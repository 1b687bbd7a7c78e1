-- The answer to a command.
use Rattle.std.specs.Prelude.{Option, Some, None}
use Rattle.sk_msg.specs.declared.command.Command.{Command}
use Rattle.sk_msg.specs.declared.command.Verdict.{Verdict}
use Rattle.sk_msg.specs.declared.command.Verdict.TheVariants.{Accepted, Refused}
use Rattle.sk_msg.specs.declared.state.State.{State}
use Rattle.sk_msg.specs.Edges.{led_to}

-- refused with the present state, where the command leads nowhere
abbrev pub verdict_at : State → Option State → Verdict
verdict_at state None = Refused state
verdict_at state (Some to) = Accepted

-- the answer in this state
abbrev pub verdict_of : State → Command → Verdict
verdict_of state command = verdict_at state (led_to state command)
