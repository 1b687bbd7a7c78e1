use Rattle.std.specs.Prelude.{◌≡◌, ◌≢◌, Some, length}
use Rattle.std.proofs.Common.{◌∙◌, ap, subst, sym}
use Rattle.sk_law.specs.Kept.{Kept}
use Rattle.sk_law.specs.Readings.{got}
use Rattle.sk_law.specs.Told.{message_at}
use Rattle.sk_node.specs.Calls.{CallsAll, CallsAllCut, handings}
use Rattle.sk_node.specs.declared.receive.Purpose.TheVariants.{System, Abort, Noted, Handed}
use Rattle.sk_node.specs.Purposes.{purpose_of}
use Rattle.sk_node.proofs.Cuts.{on_err}
use Rattle.sk_node.proofs.Wholes.{part_quiet, whole_quiet}
use Rattle.sk_node.proofs.Receiving.{heeds_whole, heeds_part, heeds_calls, heeds_calls_cut, other_than, part_noted, whole_noted}
use Rattle.sk_node.proofs.receive.heed.Goals as goal

pub hand_all-requires : goal.hand_all-requires
hand_all-requires g c = record {
  there = subst (λ n. message_at c.args.journal.now.past.journal c.args.number n ≡ Some c.args.message.now) (sym c.count_of_got-place.ensures) c.requires.there;
}

pub returns-in_err-judge-in-System-clause-err : goal.returns-in_err-judge-in-System-clause-err
returns-in_err-judge-in-System-clause-err g c =
    let k : Kept = c.args.journal.now in let was = g.A.App.lists c.args.app.now in let m = c.args.message.now in
    let e : System ≡ purpose_of m = c.in-System.ensures ∙ ap purpose_of c.content-content.ensures.value in
    on_err c.from_residual.result
    (heeds_part System k c.judge.new.journal c.args.number (length (got k.past.journal c.args.number)) m c.args.receivers.now was was e (c.requires.nobody (other_than System m e (λ h. cc h)))
    (part_quiet c.in_err-judge-in-System.ensures.err c.judge.ensures.quiet))

pub returns-in_ok-judge-in-System-clause-ok : goal.returns-in_ok-judge-in-System-clause-ok
returns-in_ok-judge-in-System-clause-ok g c =
    let k : Kept = c.args.journal.now in let was = g.A.App.lists c.args.app.now in let m = c.args.message.now in
    let e : System ≡ purpose_of m = c.in-System.ensures ∙ ap purpose_of c.content-content.ensures.value in
    heeds_whole System k c.judge.new.journal c.args.number (length (got k.past.journal c.args.number)) m c.args.receivers.now was was e (c.requires.nobody (other_than System m e (λ h. cc h)))
    (whole_quiet c.in_ok-judge-in-System.ensures.ok c.judge.ensures.quiet)

pub returns-in_err-enter_where-in-Abort-clause-err : goal.returns-in_err-enter_where-in-Abort-clause-err
returns-in_err-enter_where-in-Abort-clause-err g c =
    let k : Kept = c.args.journal.now in let m = c.args.message.now in
    let e : Abort ≡ purpose_of m = c.in-Abort.ensures ∙ ap purpose_of c.content-content.ensures.value in
    on_err c.from_residual-in_err-enter_where-in-Abort.result
    (heeds_part Abort k c.enter_where.new.journal c.args.number (length (got k.past.journal c.args.number)) m c.args.receivers.now (g.A.App.lists c.args.app.now) (g.A.App.lists c.enter_where.new.app) e
    (c.requires.nobody (other_than Abort m e (λ h. cc h))) c.in_err-enter_where-in-Abort.ensures.err)

pub returns-in_ok-enter_where-in-Abort-clause-ok : goal.returns-in_ok-enter_where-in-Abort-clause-ok
returns-in_ok-enter_where-in-Abort-clause-ok g c =
    let k : Kept = c.args.journal.now in let m = c.args.message.now in
    let e : Abort ≡ purpose_of m = c.in-Abort.ensures ∙ ap purpose_of c.content-content.ensures.value in
    heeds_whole Abort k c.enter_where.new.journal c.args.number (length (got k.past.journal c.args.number)) m c.args.receivers.now (g.A.App.lists c.args.app.now) (g.A.App.lists c.enter_where.new.app) e
    (c.requires.nobody (other_than Abort m e (λ h. cc h))) c.in_ok-enter_where-in-Abort.ensures.ok

pub returns-in_err-note-in-Noted-clause-err : goal.returns-in_err-note-in-Noted-clause-err
returns-in_err-note-in-Noted-clause-err g c =
    let k : Kept = c.args.journal.now in let was = g.A.App.lists c.args.app.now in let m = c.args.message.now in
    let e : Noted ≡ purpose_of m = c.in-Noted.ensures ∙ ap purpose_of c.content-content.ensures.value in
    on_err c.from_residual-in_err-note-in-Noted.result
    (heeds_part Noted k c.note.new.journal c.args.number (length (got k.past.journal c.args.number)) m c.args.receivers.now was was e (c.requires.nobody (other_than Noted m e (λ h. cc h)))
    (part_noted k c.note.new.journal c.args.number m was c.in_err-note-in-Noted.ensures.err))

pub returns-in_ok-note-in-Noted-clause-ok : goal.returns-in_ok-note-in-Noted-clause-ok
returns-in_ok-note-in-Noted-clause-ok g c =
    let k : Kept = c.args.journal.now in let was = g.A.App.lists c.args.app.now in let m = c.args.message.now in
    let e : Noted ≡ purpose_of m = c.in-Noted.ensures ∙ ap purpose_of c.content-content.ensures.value in
    heeds_whole Noted k c.note.new.journal c.args.number (length (got k.past.journal c.args.number)) m c.args.receivers.now was was e (c.requires.nobody (other_than Noted m e (λ h. cc h)))
    (whole_noted k c.note.new.journal c.args.number m was (rw c.content-content.ensures.value at c.in_ok-note-in-Noted.ensures.ok))

pub returns-in_err-hand_all-in-Handed-clause-err : goal.returns-in_err-hand_all-in-Handed-clause-err
returns-in_err-hand_all-in-Handed-clause-err g c =
    let k : Kept = c.args.journal.now in let was = g.A.App.lists c.args.app.now in let now = g.A.App.lists c.hand_all.new.app in let m = c.args.message.now in
    on_err c.from_residual-in_err-hand_all-in-Handed.result
    (heeds_calls_cut k c.hand_all.new.journal c.args.number m (handings c.args.number (length (got k.past.journal c.args.number)) m c.args.receivers.now) was now
    (c.in-Handed.ensures ∙ ap purpose_of c.content-content.ensures.value)
    (subst (λ n. CallsAllCut k c.hand_all.new.journal (handings c.args.number n m c.args.receivers.now) was now) c.count_of_got-place.ensures c.in_err-hand_all-in-Handed.ensures.err))

pub returns-in_ok-hand_all-in-Handed-clause-ok : goal.returns-in_ok-hand_all-in-Handed-clause-ok
returns-in_ok-hand_all-in-Handed-clause-ok g c =
    let k : Kept = c.args.journal.now in let was = g.A.App.lists c.args.app.now in let now = g.A.App.lists c.hand_all.new.app in let m = c.args.message.now in
    heeds_calls k c.hand_all.new.journal c.args.number m (handings c.args.number (length (got k.past.journal c.args.number)) m c.args.receivers.now) was now
    (c.in-Handed.ensures ∙ ap purpose_of c.content-content.ensures.value)
    (subst (λ n. CallsAll k c.hand_all.new.journal (handings c.args.number n m c.args.receivers.now) was now) c.count_of_got-place.ensures c.in_ok-hand_all-in-Handed.ensures.ok)
