use Rattle.std.proofs.Common.{refl}
use Rattle.sk_pipe.proofs.TalkLaws.{in_step_none}
use Rattle.sk_pipe.proofs.laws.silence.Goals as goal

pub returns : goal.returns
returns c = λ name step duration. in_step_none name step duration (_, refl)
