use Rattle.std.proofs.Common.{◌≡◌, [], ◌∷◌, false, true, refl, sym, ◌∙◌, ap, subst}
use Rattle.std.specs.Prelude.{not}
use Rattle.sk_msg.specs.declared.content.Content.TheVariants.{Hello}
use Rattle.sk_msg.specs.Roles.{is_synchronised_role}
use Rattle.sk_pipe.specs.Hearing.{IsSyncAfter, IsPresent}
use Rattle.sk_pipe.proofs.CountLaws.{at_least_one}
use Rattle.sk_pipe.proofs.HearingLaws.{begun-unsynchronised, present-hello}
use Rattle.sk_pipe.proofs.peer.Peer.note_hello.Goals as goal

pub returns-else-is_synchronised-clause-hears : goal.returns-else-is_synchronised-clause-hears
returns-else-is_synchronised-clause-hears c = λ before name address h.
    let old = c.args.self.now in
    let role = c.args.role in
    let start : before ≡ [] = subst (IsSyncAfter before) c.in-Unknown.is (h.sync_is refl) in
    let unsynchronised : is_synchronised_role role ≡ false = sym c.if-is_synchronised.ensures in
    let here : IsPresent (Hello name role address ∷ []) true = subst (IsPresent (Hello name role address ∷ [])) (ap not unsynchronised) (present-hello name role address) in
    rw start (record {
      ending_is = h.ending_is;
      begun_is = old.counted ∙ sym (begun-unsynchronised old.step old.duration (at_least_one old.step old.step_fits) (Hello name role address ∷ []) here);
      sync_is = λ _. here;
    })
