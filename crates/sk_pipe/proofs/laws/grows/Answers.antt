use Rattle.sk_pipe.proofs.GrowthLaws.{pipe_out-monotone}
use Rattle.sk_pipe.proofs.laws.grows.Goals as goal

pub returns : goal.returns
returns c = λ name step duration b more positive. pipe_out-monotone name step duration b _ positive (c.growing.ensures b more)
