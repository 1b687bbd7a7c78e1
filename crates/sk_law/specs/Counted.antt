-- The numbers of calls, at clients and at servers.
use Rattle.std.specs.Prelude.{ℕ, Bool, true}
use Rattle.std.specs.List.{list_all}
use Rattle.sk_msg.specs.Rules.{is_call}
use Rattle.sk_law.specs.declared.memory.ServiceState.{ServiceState}
use Rattle.sk_law.specs.declared.memory.ServiceState.TheVariants as states

-- how many calls a client has made; a service of another kind makes none
abbrev pub calls_made : ServiceState → ℕ
calls_made (states.Client made) = made
calls_made at = 0

-- each call that a server has still to answer has a number that a call may have
abbrev pub are_calls : ServiceState → Bool
are_calls (states.Server calls) = list_all (λ one. is_call one.call) calls
are_calls at = true
