use Rattle.std.proofs.Common.{◌<◌, length, refl, arith}
use Rattle.sk_sim.proofs.Outgoing.{held_read, one_tied, pushed_one}
use Rattle.sk_sim.proofs.pushing.push_one.Goals as goal

pub returns-clause-tied : goal.returns-clause-tied
returns-clause-tied c =
    let e = c.push_to-moved.ensures in
    let x = c.index_mut-held.result.now in
    let low : c.args.peer < length c.args.wired.now.held.items = (let h = c.requires.tied.held_is in let p = c.requires.peer.0 in omega arith) in
    one_tied _ c.args.wired.now _ c.args.peer
    (pushed_one c.push_to-moved.result c.args.wired.now _ c.args.peer x c.push_to-moved.new.held e.only e.ring low (held_read _ c.args.peer x low c.index_mut-held.ensures.value) refl e.all e.more e.moved e.still e.done)
    c.requires.tied c.journal.ensures.sound.within

pub returns-clause-pushes : goal.returns-clause-pushes
returns-clause-pushes c =
    let e = c.push_to-moved.ensures in
    let x = c.index_mut-held.result.now in
    let low : c.args.peer < length c.args.wired.now.held.items = (let h = c.requires.tied.held_is in let p = c.requires.peer.0 in omega arith) in
    pushed_one c.push_to-moved.result c.args.wired.now _ c.args.peer x c.push_to-moved.new.held e.only e.ring low (held_read _ c.args.peer x low c.index_mut-held.ensures.value) refl e.all e.more e.moved e.still e.done
