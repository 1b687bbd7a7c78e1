use Rattle.std.proofs.Common.{sym}
use Rattle.sk_sim.proofs.Incoming.{takes_closed, takes_none, takes_read}
use Rattle.sk_sim.proofs.taking.take_one.Goals as goal

pub returns-then-not-is_open-clause-ok : goal.returns-then-not-is_open-clause-ok
returns-then-not-is_open-clause-ok g c = takes_closed c.args.wired.now _ c.args.peer c.requires.tied (sym c.if-not-is_open.ensures)

pub returns-in_default-clause-ok : goal.returns-in_default-clause-ok
returns-in_default-clause-ok g c =
    let e = c.in_default.ensures.none in takes_none c.args.wired.now c.pop.new.self _ c.args.peer c.requires.tied c.pop.ensures.only e.0 e.1 e.2

pub returns-clause-ok : goal.returns-clause-ok
returns-clause-ok g c =
    let e = c.in_ok-take.ensures in
    takes_read c.what_is_put_is_bounded.ensures c.args.wired.now c.take.new.self c.pop.new.self _ _ c.args.peer c.in-Some.message c.requires.tied c.requires.peer c.pop.ensures.only c.in-Some.ensures.some e.ok e.hears e.gets c.journal.ensures.sound
