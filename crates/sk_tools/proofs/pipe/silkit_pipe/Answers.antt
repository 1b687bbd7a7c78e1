use Rattle.std.proofs.Common.{refl}
use Rattle.sk_tools.proofs.TopLaws.{pipe_ran, pipe_still}
use Rattle.sk_tools.proofs.pipe.silkit_pipe.Goals as goal

pub returns-in-Ok-clause-call : goal.returns-in-Ok-clause-call
returns-in-Ok-clause-call g c =
    rw (c.number.ensures, c.exit_status.ensures) (pipe_ran _ _ _ c.run_pipe.result c.in-Ok.ensures c.run_pipe.ensures.talk c.run_pipe.ensures.faults)

pub returns-in-Err-clause-call : goal.returns-in-Err-clause-call
returns-in-Err-clause-call g c =
    rw (c.number-in-Err.ensures, c.refuse_silently.ensures) (pipe_still _ _ refl c.in-Err.refused refl c.in-Err.ensures)
