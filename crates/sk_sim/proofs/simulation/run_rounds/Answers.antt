use Rattle.std.proofs.Common.{true, false, refl, ◌∙◌, ap}
use Rattle.sk_script.specs.Scenarios.{names_of}
use Rattle.sk_sim.specs.Views.{views}
use Rattle.sk_sim.proofs.Apps.{played_by}
use Rattle.sk_sim.proofs.Simulating.{simulation, no_stall}
use Rattle.sk_sim.proofs.simulation.run_rounds.Goals as goal

pub returns-in_err-names-clause-stalled : goal.returns-in_err-names-clause-stalled
returns-in_err-names-clause-stalled c = no_stall c.args.scenario.now c.from_residual.result c.from_residual.ensures.1

pub returns-in_err-seats-clause-stalled : goal.returns-in_err-seats-clause-stalled
returns-in_err-seats-clause-stalled c = no_stall c.args.scenario.now c.from_residual-in_err-seats.result c.from_residual-in_err-seats.ensures.1

pub returns-in_err-seats-2-clause-stalled : goal.returns-in_err-seats-2-clause-stalled
returns-in_err-seats-2-clause-stalled c = no_stall c.args.scenario.now c.from_residual-in_err-seats-2.result c.from_residual-in_err-seats-2.ensures.1

pub returns-in_err-journals-clause-stalled : goal.returns-in_err-journals-clause-stalled
returns-in_err-journals-clause-stalled c = no_stall c.args.scenario.now c.from_residual-in_err-journals.result c.from_residual-in_err-journals.ensures.1

pub returns-then-finished-clause-finished : goal.returns-then-finished-clause-finished
returns-then-finished-clause-finished c =
    let s = c.in_ok-seats-2 in
    simulation c.args.scenario.now s.finished (views c.in_ok-seats.field-0.items) (views s.seats.items) c.in_ok-seats.ensures.of s.ensures.run c.participants.ensures.rules (played_by (λ origin. origin) (λ app. refl) (λ app. refl) s.seats.items)
    true c.if-finished.true _ _ (c.in_ok-names.ensures ∙ ap names_of c.participants.ensures.value) c.in_ok-journals.ensures

pub returns-else-finished-clause-stalled : goal.returns-else-finished-clause-stalled
returns-else-finished-clause-stalled c =
    let s = c.in_ok-seats-2 in
    simulation c.args.scenario.now s.finished (views c.in_ok-seats.field-0.items) (views s.seats.items) c.in_ok-seats.ensures.of s.ensures.run c.participants.ensures.rules (played_by (λ origin. origin) (λ app. refl) (λ app. refl) s.seats.items)
    false c.if-finished.false _ _ (c.in_ok-names.ensures ∙ ap names_of c.participants.ensures.value) c.in_ok-journals.ensures
