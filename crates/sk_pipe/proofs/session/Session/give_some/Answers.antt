use Rattle.std.proofs.Common.{[], sym, append-nil}
use Rattle.sk_pipe.specs.declared.ending.PipeEnding.TheVariants.{Memory}
use Rattle.sk_pipe.proofs.SessionLaws.{ends_here}
use Rattle.sk_pipe.proofs.session.Session.give_some.Goals as goal

pub returns-in-Err-clause-talk : goal.returns-in-Err-clause-talk
returns-in-Err-clause-talk g c = λ told name talk f.
    ([], sym (append-nil _), rw c.in-Err.ensures.heard.peer (ends_here name talk c.args.self.now f Memory (λ w. w) f.patient))
