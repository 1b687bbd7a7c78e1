use Rattle.std.proofs.Common.{◌≡◌, ◌∙◌, ◌<◌, refl, sym, ap, position, length, Some, get_or, []}
use Rattle.std.proofs.lemmas.List.{get_or_default, length-map}
use Rattle.sk_sim.specs.Simulations.{journals_of}
use Rattle.sk_tools.specs.Running.{first_aborted, has_aborted}
use Rattle.sk_tools.proofs.SimulateLaws.{position-map}
use Rattle.sk_tools.proofs.simulate.running.judge.Goals as goal

pub returns-in-Some-clause-ends : goal.returns-in-Some-clause-ends
returns-in-Some-clause-ends g c =
    let first : first_aborted (journals_of c.args.run.now) ≡ Some c.in-Some.number =
    position-map has_aborted (λ journal. journal.items) c.args.run.now.journals.items
    ∙ ap (λ js. position (λ journal. has_aborted journal.items) js) (sym c.deref.ensures.value)
    ∙ sym c.first_aborted.ensures.first
    ∙ c.in-Some.is in
    rw first refl

pub returns-in-None-clause-ends : goal.returns-in-None-clause-ends
returns-in-None-clause-ends g c =
    position-map has_aborted (λ journal. journal.items) c.args.run.now.journals.items
    ∙ ap (λ js. position (λ journal. has_aborted journal.items) js) (sym c.deref.ensures.value)
    ∙ sym c.first_aborted.ensures.first
    ∙ c.in-None.is

pub returns-in-Some-clause-said : goal.returns-in-Some-clause-said
returns-in-Some-clause-said g c =
    let first : first_aborted (journals_of c.args.run.now) ≡ Some c.in-Some.number =
    position-map has_aborted (λ journal. journal.items) c.args.run.now.journals.items
    ∙ ap (λ js. position (λ journal. has_aborted journal.items) js) (sym c.deref.ensures.value)
    ∙ sym c.first_aborted.ensures.first
    ∙ c.in-Some.is in
    let below : c.in-Some.number < length c.args.run.now.names =
    rw (c.requires ∙ length-map c.args.run.now.journals.items (λ journal. journal.items) ∙ ap length (sym c.deref.ensures.value)) c.in-Some.ensures.below in
    let name : get_or c.args.run.now.names c.in-Some.number [] ≡ c.as_str.result.now =
    get_or_default c.args.run.now.names c.in-Some.number [] c.index-as_slice-number.result below
    ∙ sym (c.as_str.ensures.value ∙ c.index-as_slice-number.is ∙ ap (λ names. get_or names c.in-Some.number c.index-as_slice-number.result) c.as_slice.ensures) in
    rw (first, name) c.say_line.ensures.says
