use Rattle.std.proofs.Common.{[], sym, append-nil, refl}
use Rattle.sk_pipe.proofs.TalkLaws.{in_step_none, patient_none}
use Rattle.sk_pipe.proofs.run.run_pipe.Goals as goal

pub returns-in_default-clause-talk : goal.returns-in_default-clause-talk
returns-in_default-clause-talk g c = λ told.
    ([], sym (append-nil _), record { in_step = in_step_none c.args.plan.name c.args.plan.step c.args.plan.duration (_, refl); whole = λ w. absurd w; cause = patient_none })
