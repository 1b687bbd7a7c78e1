use Rattle.std.proofs.Common.{arith, refl, ◌∙◌}
use Rattle.sk_sim.proofs.Working.{round_end, round_done, round_unfinished, all_cards, went_none, went_both}
use Rattle.sk_sim.proofs.rounds.turn_until.Goals as goal

pub rounds-init : goal.rounds-init
rounds-init g c = record { same = refl; sound = c.requires.sound; went = went_none _ }

pub returns-in-Still-clause-still : goal.returns-in-Still-clause-still
returns-in-Still-clause-still g c = let r = rw c.in-Still.is at c.in_ok-turn_round.ensures.round in round_end _ _ _ _ (λ e. (cc)) (all_cards _ _ (omega arith)) r

pub returns-in-Done-clause-still : goal.returns-in-Done-clause-still
returns-in-Done-clause-still g c = let r = rw c.in-Done.is at c.in_ok-turn_round.ensures.round in round_end _ _ _ _ (λ e. (cc)) (all_cards _ _ (omega arith)) r

pub returns-in-Done-clause-finished : goal.returns-in-Done-clause-finished
returns-in-Done-clause-finished g c = let r = rw c.in-Done.is at c.in_ok-turn_round.ensures.round in λ e. round_done _ _ _ (all_cards _ _ (omega arith)) r

pub returns-in-Still-clause-unfinished : goal.returns-in-Still-clause-unfinished
returns-in-Still-clause-unfinished g c = let r = rw c.in-Still.is at c.in_ok-turn_round.ensures.round in λ e. round_unfinished _ _ _ r

pub rounds-preserved : goal.rounds-preserved
rounds-preserved g c =
    let i = c.rounds.invariant in let e = c.in_ok-turn_round.ensures in
    record { same = e.places ∙ i.same; sound = e.sound; went = went_both _ _ _ i.went e.went }

pub returns-in-Still-clause-went : goal.returns-in-Still-clause-went
returns-in-Still-clause-went g c = went_both _ _ _ c.rounds.invariant.went c.in_ok-turn_round.ensures.went

pub returns-in-Done-clause-went : goal.returns-in-Done-clause-went
returns-in-Done-clause-went g c = went_both _ _ _ c.rounds.invariant.went c.in_ok-turn_round.ensures.went
