use Rattle.std.proofs.Common.{◌<◌, length, sym, arith}
use Rattle.sk_sim.proofs.Seeing.{cut, both, between}
use Rattle.sk_sim.proofs.looks.look_between.Goals as goal

pub beside-requires : goal.beside-requires
beside-requires g c =
    let e = c.split_at_mut-front.ensures in let x = c.index-front-i in let y = c.index-back-0 in
    let some : 0 < length c.split_at_mut-front.result.1.now = let b = e.back_len in let w = c.requires.within in omega arith in
    let k = cut _ _ _ _ _ x.result y.result e.value e.front_len c.requires.order x.is y.is some in
    rw (sym x.is, sym y.is) (between _ _ _ _ _ _ _ k c.requires.mesh)

pub returns-clause-low : goal.returns-clause-low
returns-clause-low g c =
    let e = c.split_at_mut-front.ensures in let x = c.index-front-i in let y = c.index-back-0 in
    let some : 0 < length c.split_at_mut-front.result.1.now = let b = e.back_len in let w = c.requires.within in omega arith in
    let k = cut _ _ _ _ _ x.result y.result e.value e.front_len c.requires.order x.is y.is some in
    let b = c.beside.ensures in
    (both _ _ _ _ _ x.result y.result c.beside.new.self c.beside.new.other k c.requires.mesh c.requires.sound
    (rw (sym x.is) at b.views.0) (rw (sym y.is) at b.views.1) (rw (sym x.is, sym y.is) at b.looks.0) (rw (sym x.is, sym y.is) at b.looks.1) b.knows.0 b.knows.1).low

pub returns-clause-high : goal.returns-clause-high
returns-clause-high g c =
    let e = c.split_at_mut-front.ensures in let x = c.index-front-i in let y = c.index-back-0 in
    let some : 0 < length c.split_at_mut-front.result.1.now = let b = e.back_len in let w = c.requires.within in omega arith in
    let k = cut _ _ _ _ _ x.result y.result e.value e.front_len c.requires.order x.is y.is some in
    let b = c.beside.ensures in
    (both _ _ _ _ _ x.result y.result c.beside.new.self c.beside.new.other k c.requires.mesh c.requires.sound
    (rw (sym x.is) at b.views.0) (rw (sym y.is) at b.views.1) (rw (sym x.is, sym y.is) at b.looks.0) (rw (sym x.is, sym y.is) at b.looks.1) b.knows.0 b.knows.1).high
