use Rattle.std.proofs.Common.{arith, refl, sym}
use Rattle.sk_sim.specs.Views.{views, cards, places}
use Rattle.sk_sim.proofs.Working.{took, went_none, round_none}
use Rattle.sk_sim.proofs.rounds.turn_round.Goals as goal

pub loop-i-init : goal.loop-i-init
loop-i-init g c = record { same = refl; sound = c.requires.sound; went = went_none _; round = round_none _ }

pub loop-i-preserved : goal.loop-i-preserved
loop-i-preserved g c =
    let w = c.loop-i.invariant in let d = c.in_ok-did.ensures in let x = c.index-seats-i in
    let k = took (places (cards c.args.seats.now)) (views c.args.seats.now) _ c.loop-i.so_far c.in_ok-did.did _ c.loop-i.i _ x.result c.turn.new.self c.requires.mesh w.same w.sound w.went w.round
    c.look_around.ensures.views c.look_around.ensures.sees (omega arith) (omega arith) x.is
    (rw (sym x.is) at d.sound.0) d.sound.1 (rw (sym x.is) at d.ok) (rw (sym x.is) at d.origin) in
    rw c.with-so_far.ensures (record { same = k.same; sound = k.sound; went = k.went; round = k.round })
