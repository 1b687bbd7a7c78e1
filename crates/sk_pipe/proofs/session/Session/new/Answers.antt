use Rattle.std.proofs.Common.{[], List, ℕ, subst, refl, arith}
use Rattle.sk_connection.specs.Connection as connection
use Rattle.sk_pipe.proofs.HearingLaws.{heard-nothing, end_of-nothing}
use Rattle.sk_pipe.proofs.SessionLaws.{due_more}
use Rattle.sk_pipe.proofs.TalkLaws.{in_step_none, patient_none}
use Rattle.sk_pipe.proofs.session.Session.new.Goals as goal

pub returns-clause-follows : goal.returns-clause-follows
returns-clause-follows c = record {
  connection_is = subst (λ (all : List ℕ). connection.Follows all [] c.queue.new.self) c.in_ok-message.ensures (c.in_ok-queue.ensures.follows [] [] c.new-connection.ensures.follows);
  hears = rw (heard-nothing, end_of-nothing) c.new.ensures.hears;
  due = due_more c.new.result.begun c.new.result.total;
  not_full_at_end = λ e. absurd cc;
  in_step = in_step_none c.args.plan.name _ _ (_, refl);
  patient = patient_none;
}
