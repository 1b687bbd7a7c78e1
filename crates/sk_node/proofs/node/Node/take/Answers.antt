use Rattle.std.proofs.Common.{subst}
use Rattle.sk_node.specs.Known.{Known}
use Rattle.sk_node.specs.Peers.{Hears}
use Rattle.sk_node.specs.Takes.{Takes, TakesCut}
use Rattle.sk_node.proofs.Serving.{serves_in, stops_in, sound_in, sound_stopped, holds_in, open_in}
use Rattle.sk_node.proofs.Getting.{hears_taken}
use Rattle.sk_node.proofs.node.Node.take.Goals as goal

pub take-requires : goal.take-requires
take-requires g c = record { is_open = open_in c.args.self.now c.self.inside.journal c.self.inside.poisoned c.args.peer c.self.view_is c.requires.is_open }

pub invariant_of-self : goal.invariant_of-self
invariant_of-self g c =
    sound_in c.limits_hold.ensures c.self.inside.journal c.take.new.journal c.self.inside.poisoned c.if-self.false c.in-Ok.ensures.ok.went
    c.sound.ensures.all c.sound.ensures.within

pub invariant_of-self-in-Err : goal.invariant_of-self-in-Err
invariant_of-self-in-Err g c =
    sound_stopped c.take.new.journal c.sound-in-Err.ensures.all c.sound-in-Err.ensures.within

pub returns-in-Ok-clause-ok : goal.returns-in-Ok-clause-ok
returns-in-Ok-clause-ok g c =
    serves_in c.blocks_only_add.ensures c.turns_come_to_an_end.ensures c.args.self.now c.self.inside.journal c.take.new.journal c.self.inside.poisoned c.self.view_is c.if-self.false c.in-Ok.ensures.ok.went

pub returns-in-Ok-clause-gets : goal.returns-in-Ok-clause-gets
returns-in-Ok-clause-gets g c =
    subst (λ (o : Known). Takes o.kept c.take.new.journal c.args.peer c.args.message (g.A.App.lists c.args.app.now) (g.A.App.lists c.take.new.app)) c.self.view_is c.in-Ok.ensures.ok

pub returns-in-Ok-clause-hears : goal.returns-in-Ok-clause-hears
returns-in-Ok-clause-hears g c =
    holds_in (λ S past now. Hears S c.args.peer c.args.message past now) c.args.self.now c.self.inside.journal c.self.inside.poisoned c.take.new.journal.past c.self.view_is
    (hears_taken c.self.inside.journal c.take.new.journal c.args.peer c.args.message (g.A.App.lists c.args.app.now) (g.A.App.lists c.take.new.app) c.in-Ok.ensures.ok)

pub returns-in-Err-clause-err : goal.returns-in-Err-clause-err
returns-in-Err-clause-err g c = λ whole. stops_in c.args.self.now c.self.inside.journal c.take.new.journal c.self.inside.poisoned c.self.view_is c.in-Err.ensures.err.went

pub returns-in-Err-clause-cut : goal.returns-in-Err-clause-cut
returns-in-Err-clause-cut g c =
    λ whole. subst (λ (o : Known). TakesCut o.kept c.take.new.journal c.args.peer c.args.message (g.A.App.lists c.args.app.now) (g.A.App.lists c.take.new.app)) c.self.view_is c.in-Err.ensures.err
