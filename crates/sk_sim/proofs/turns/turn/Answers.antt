use Rattle.std.proofs.Common.{◌-◌, length, ◌∙◌, ap, refl}
use Rattle.sk_sim.specs.Answers.{has_none}
use Rattle.sk_sim.proofs.Turning.{turn_says}
use Rattle.sk_sim.proofs.Bounding.{stays_bounded}
use Rattle.sk_sim.proofs.turns.turn.Goals as goal

pub returns-clause-ok : goal.returns-clause-ok
returns-clause-ok g c =
    rw (c.answer.ensures, c.any-moved.ensures)
    (turn_says c.push_all-pushed.result c.in_ok-taken.taken c.push_all-again.result c.in_ok-did.did (length c.journal.result.now - length c.journal-before.result.now) c.is_empty-empty.result
    c.args.wired.now c.push_all-pushed.new.wired c.take_each.new.wired c.act.new.wired c.push_all-again.new.wired _ _ _ (record {
      first = c.push_all-pushed.ensures.pushes;
      takes = c.in_ok-taken.ensures.ok;
      acts = c.in_ok-did.ensures.ok;
      again = c.push_all-again.ensures.pushes;
      tied_a = c.requires.tied;
      tied_b = c.push_all-pushed.ensures.tied;
      tied_e = c.push_all-again.ensures.tied;
      added_is = rw (c.journal.ensures.entries, c.journal-before.ensures.entries) refl;
      empty_is = c.is_empty-empty.ensures ∙ ap has_none c.deref.ensures.value;
    }))

pub returns-clause-bounded : goal.returns-clause-bounded
returns-clause-bounded g c =
    stays_bounded c.what_is_put_is_bounded.ensures c.states_walk.ensures
    c.push_all-pushed.result c.in_ok-taken.taken c.push_all-again.result c.in_ok-did.did (length c.journal.result.now - length c.journal-before.result.now) c.is_empty-empty.result
    c.args.wired.now c.push_all-pushed.new.wired c.take_each.new.wired c.act.new.wired c.push_all-again.new.wired _ _ _ (record {
      first = c.push_all-pushed.ensures.pushes;
      takes = c.in_ok-taken.ensures.ok;
      acts = c.in_ok-did.ensures.ok;
      again = c.push_all-again.ensures.pushes;
      tied_a = c.requires.tied;
      tied_b = c.push_all-pushed.ensures.tied;
      tied_e = c.push_all-again.ensures.tied;
      added_is = rw (c.journal.ensures.entries, c.journal-before.ensures.entries) refl;
      empty_is = c.is_empty-empty.ensures ∙ ap has_none c.deref.ensures.value;
    }) c.requires.bounded
