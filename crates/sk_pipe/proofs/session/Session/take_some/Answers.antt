use Rattle.std.proofs.Common.{◌∷◌, [], sym, ◌∙◌, append-nil}
use Rattle.sk_base.specs.Talk.{said_by_take}
use Rattle.sk_pipe.specs.declared.ending.PipeEnding.TheVariants.{LinkFault}
use Rattle.sk_pipe.proofs.SessionLaws.{ends_here, may_take}
use Rattle.sk_pipe.proofs.session.Session.take_some.Goals as goal

pub returns-in-Err-clause-talk : goal.returns-in-Err-clause-talk
returns-in-Err-clause-talk g c = λ told name talk f.
    ([], c.in-Err.ensures.talk told ∙ sym (append-nil _), ends_here name talk c.args.self.now f LinkFault (λ w. w) f.patient)

pub returns-in-Ok-clause-talk : goal.returns-in-Ok-clause-talk
returns-in-Ok-clause-talk g c = λ told name talk f. (
  said_by_take c.in-Ok.took c.take.new.buf ∷ [],
  c.in-Ok.ensures.talk told,
  c.hear.ensures.talk name talk f (may_take name talk c.args.self.now f c.requires.given c.requires.open),
)
