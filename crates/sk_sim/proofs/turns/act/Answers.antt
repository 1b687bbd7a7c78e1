use Rattle.sk_sim.proofs.Turning.{acts_of}
use Rattle.sk_sim.proofs.turns.act.Goals as goal

pub returns-clause-ok : goal.returns-clause-ok
returns-clause-ok g c =
    let e = c.in_ok-turned.ensures in
    acts_of c.what_is_put_is_bounded.ensures c.in_ok-turned.turned c.args.wired.now c.turn.new.self _ _ c.requires.tied e.turned e.hears e.ended c.journal.ensures.sound
