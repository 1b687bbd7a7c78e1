use Rattle.std.proofs.Common.{◌∙◌, ap, sym}
use Rattle.sk_msg.specs.States.{state_of}
use Rattle.sk_lifecycle.proofs.StateLaws.{state_back, state_forth}
use Rattle.sk_lifecycle.proofs.laws.numbers_name_states.Goals as goal

pub returns : goal.returns
returns c = λ number state. (state_forth number state, λ is. ap state_of (sym is) ∙ state_back state)
