use Rattle.sk_node.specs.Peers.{HearsNothing}
use Rattle.sk_node.proofs.Getting.{hears_turned}
use Rattle.sk_node.proofs.Serving.{ended_in, turned_in, sound_turned, sound_stopped, stops_in, row_cut_in, holds_in}
use Rattle.sk_node.proofs.node.Node.turn.Goals as goal

pub invariant_of-self : goal.invariant_of-self
invariant_of-self g c =
    sound_turned c.limits_hold.ensures c.in-Ok.turned c.self.inside.journal c.turn.new.journal c.self.inside.poisoned (g.A.App.lists c.args.app.now) (g.A.App.lists c.turn.new.app) c.if-self.false c.self.invariant c.in-Ok.ensures.turned c.sound.ensures.all c.sound.ensures.within

pub invariant_of-self-in-Err : goal.invariant_of-self-in-Err
invariant_of-self-in-Err g c =
    sound_stopped c.turn.new.journal c.sound-in-Err.ensures.all c.sound-in-Err.ensures.within

pub returns-in-Ok-clause-turned : goal.returns-in-Ok-clause-turned
returns-in-Ok-clause-turned g c =
    turned_in c.blocks_only_add.ensures c.turns_come_to_an_end.ensures c.in-Ok.turned c.args.self.now c.self.inside.journal c.turn.new.journal c.self.inside.poisoned (g.A.App.lists c.args.app.now) (g.A.App.lists c.turn.new.app)
    c.self.view_is c.if-self.false c.in-Ok.ensures.turned

pub returns-in-Ok-clause-hears : goal.returns-in-Ok-clause-hears
returns-in-Ok-clause-hears g c =
    holds_in (λ S past now. HearsNothing S past now) c.args.self.now c.self.inside.journal c.self.inside.poisoned c.turn.new.journal.past c.self.view_is
    (hears_turned c.in-Ok.turned c.self.inside.journal c.turn.new.journal (g.A.App.lists c.args.app.now) (g.A.App.lists c.turn.new.app) c.in-Ok.ensures.turned)

pub returns-in-Err-clause-err : goal.returns-in-Err-clause-err
returns-in-Err-clause-err g c = λ whole. stops_in c.args.self.now c.self.inside.journal c.turn.new.journal c.self.inside.poisoned c.self.view_is c.in-Err.ensures.err.went

pub returns-in-Err-clause-cut : goal.returns-in-Err-clause-cut
returns-in-Err-clause-cut g c = λ whole. row_cut_in c.args.self.now c.self.inside.journal c.turn.new.journal c.self.inside.poisoned c.self.view_is c.in-Err.ensures.err

pub returns-in-Ok-clause-ended : goal.returns-in-Ok-clause-ended
returns-in-Ok-clause-ended g c =
    ended_in c.in-Ok.turned c.args.self.now c.self.inside.journal c.turn.new.journal c.self.inside.poisoned (g.A.App.lists c.args.app.now) (g.A.App.lists c.turn.new.app) c.self.view_is c.self.invariant c.in-Ok.ensures.turned
