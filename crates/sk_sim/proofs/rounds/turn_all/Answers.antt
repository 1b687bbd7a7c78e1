use Rattle.sk_sim.specs.Views.{views}
use Rattle.sk_sim.proofs.Ending.{run_where, none_failed}
use Rattle.sk_sim.proofs.rounds.turn_all.Goals as goal

pub turn_until-requires : goal.turn_until-requires
turn_until-requires g c = record { mesh = c.requires.mesh; sound = none_failed (views c.args.seats.now) c.requires.unturned }

pub returns : goal.returns
returns g c =
    let w = c.turn_until.ensures in record {
      run = run_where c.args.seats.now c.turn_until.new.seats c.turn_until.result c.requires.mesh c.requires.unturned c.requires.alike
          w.places w.sound w.went w.still w.finished w.unfinished
          c.world_is_safe.ensures c.all_ready_before_running.ensures.told c.all_ready_before_running.ensures.ready c.none_out_of_order.ensures c.puts_are_in_order.ensures;
    }
