use Rattle.std.proofs.Common.{sym}
use Rattle.sk_run_tests.proofs.Turns.{mesh_turned, sound_turned}
use Rattle.sk_run_tests.proofs.by_hand.turn_one.Goals as goal

pub returns-clause-mesh : goal.returns-clause-mesh
returns-clause-mesh c =
    let x = c.index-seats-i in
    mesh_turned _ _ c.args.i x.result c.turn.new.self c.requires.mesh c.look_around.ensures.views x.is (rw (sym x.is) at c.in_ok-turned.ensures.place)

pub returns-clause-sound : goal.returns-clause-sound
returns-clause-sound c = sound_turned _ _ c.args.i c.turn.new.self c.requires.sound c.look_around.ensures.views c.in_ok-turned.ensures.sound.1
