use Rattle.std.proofs.Common.{◌∷◌, [], sym, subst}
use Rattle.sk_msg.specs.declared.content.Content.{Content}
use Rattle.sk_pipe.specs.Hearing.{IsHeardAs}
use Rattle.sk_pipe.proofs.peer.Peer.note.Goals as goal

pub returns-in-Hello-clause-hears : goal.returns-in-Hello-clause-hears
returns-in-Hello-clause-hears c = λ before h.
    subst (λ (m : Content). IsHeardAs before (m ∷ []) c.note_hello.new.self) (sym c.in-Hello.is) (c.note_hello.ensures.hears before c.in-Hello.name c.in-Hello.address h)

pub returns-in-NextStep-clause-hears : goal.returns-in-NextStep-clause-hears
returns-in-NextStep-clause-hears c = λ before h.
    subst (λ (m : Content). IsHeardAs before (m ∷ []) c.note_step.new.self) (sym c.in-NextStep.is) (c.note_step.ensures.hears before c.in-NextStep.duration h)
