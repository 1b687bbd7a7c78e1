use Rattle.std.proofs.Common.{true, false, refl, sym, ◌∙◌, subst}
use Rattle.sk_msg.specs.declared.content.Content.TheVariants.{Leave}
use Rattle.sk_pipe.specs.Hearing.{IsSyncAfter, IsPresent}
use Rattle.sk_pipe.specs.declared.peer.PeerSync.TheVariants.{Synchronised}
use Rattle.sk_pipe.proofs.CountLaws.{at_least_one}
use Rattle.sk_pipe.proofs.HearingLaws.{heard_leave, begun-left, leave-good}
use Rattle.sk_pipe.proofs.peer.Peer.note_leave.Goals as goal

pub returns-in-Unsynchronised-clause-hears : goal.returns-in-Unsynchronised-clause-hears
returns-in-Unsynchronised-clause-hears c = λ before h.
    let peer = c.args.self.now in
    let here : IsPresent before true = subst (IsSyncAfter before) c.in-Unsynchronised.is (h.sync_is refl) in
    heard_leave before Leave refl _ (leave-good before true here) refl refl
    (peer.counted ∙ sym (begun-left peer.step peer.duration (at_least_one peer.step peer.step_fits) before here.hello))

pub returns-in-Synchronised-clause-hears : goal.returns-in-Synchronised-clause-hears
returns-in-Synchronised-clause-hears c = λ before h.
    let peer = c.args.self.now in
    let sync_is : IsSyncAfter before (Synchronised c.in-Synchronised.field-0) = subst (IsSyncAfter before) c.in-Synchronised.is (h.sync_is refl) in
    let here : IsPresent before false = sync_is.0 in
    heard_leave before Leave refl _ (leave-good before false here) refl refl
    (peer.counted ∙ sym (begun-left peer.step peer.duration (at_least_one peer.step peer.step_fits) before here.hello))
