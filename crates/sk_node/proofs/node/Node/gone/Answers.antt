use Rattle.std.specs.Prelude.{◌≡◌, Bool}
use Rattle.std.proofs.Common.{ap, sym, subst}
use Rattle.sk_law.specs.Past.{Past}
use Rattle.sk_law.specs.Blocks.{judge_limits, lose}
use Rattle.sk_law.specs.Lawful.{loses}
use Rattle.sk_law.specs.Kept.{Kept}
use Rattle.sk_node.specs.Peers.{Loses}
use Rattle.sk_node.proofs.Rowing.{part_cut}
use Rattle.sk_node.proofs.Serving.{went_whole, serves_in, stops_in, cut_in, sound_in, sound_stopped, holds_in, open_in}
use Rattle.sk_node.proofs.Getting.{loses_one}
use Rattle.sk_node.proofs.node.Node.gone.Goals as goal

pub lose-requires : goal.lose-requires
lose-requires g c = record { is_open = open_in c.args.self.now c.self.inside.journal c.self.inside.poisoned c.args.peer c.self.view_is c.requires.is_open }

pub invariant_of-self : goal.invariant_of-self
invariant_of-self g c =
    let k : Kept = c.self.inside.journal in
    let new : Kept = c.lose.new.journal in
    let b : Bool = c.self.inside.poisoned in
    sound_in c.limits_hold.ensures k new b c.if-self.false (went_whole (loses c.args.peer c.args.reason (open_in c.args.self.now k b c.args.peer c.self.view_is c.requires.is_open) c.requires.reason) c.in-Ok.ensures.ok) c.sound.ensures.all c.sound.ensures.within

pub invariant_of-self-in-Err : goal.invariant_of-self-in-Err
invariant_of-self-in-Err g c =
    let k : Kept = c.self.inside.journal in
    let new : Kept = c.lose.new.journal in
    let b : Bool = c.self.inside.poisoned in
    sound_stopped new c.sound-in-Err.ensures.all c.sound-in-Err.ensures.within

pub returns-in-Ok-clause-ok : goal.returns-in-Ok-clause-ok
returns-in-Ok-clause-ok g c =
    let k : Kept = c.self.inside.journal in
    let new : Kept = c.lose.new.journal in
    let b : Bool = c.self.inside.poisoned in
    serves_in c.blocks_only_add.ensures c.turns_come_to_an_end.ensures c.args.self.now k new b c.self.view_is c.if-self.false (went_whole (loses c.args.peer c.args.reason (open_in c.args.self.now k b c.args.peer c.self.view_is c.requires.is_open) c.requires.reason) c.in-Ok.ensures.ok)

pub returns-in-Ok-clause-loses : goal.returns-in-Ok-clause-loses
returns-in-Ok-clause-loses g c =
    let k : Kept = c.self.inside.journal in
    let new : Kept = c.lose.new.journal in
    let b : Bool = c.self.inside.poisoned in
    holds_in (λ S past now. now ≡ judge_limits S (lose S c.args.peer c.args.reason past)) c.args.self.now k b new.past c.self.view_is (ap (λ (x : Kept). x.past) c.in-Ok.ensures.ok.past)

pub returns-in-Ok-clause-hears : goal.returns-in-Ok-clause-hears
returns-in-Ok-clause-hears g c =
    let k : Kept = c.self.inside.journal in
    let new : Kept = c.lose.new.journal in
    let b : Bool = c.self.inside.poisoned in
    holds_in (λ S past now. Loses S c.args.peer c.args.reason past now) c.args.self.now k b new.past c.self.view_is
    (subst (λ (x : Past). Loses k.setup c.args.peer c.args.reason k.past x) (sym (ap (λ (x : Kept). x.past) c.in-Ok.ensures.ok.past)) (loses_one k.setup c.args.peer c.args.reason k.past))

pub returns-in-Err-clause-err : goal.returns-in-Err-clause-err
returns-in-Err-clause-err g c =
    λ whole.
    let k : Kept = c.self.inside.journal in
    let new : Kept = c.lose.new.journal in
    let b : Bool = c.self.inside.poisoned in
    stops_in c.args.self.now k new b c.self.view_is (part_cut (loses c.args.peer c.args.reason (open_in c.args.self.now k b c.args.peer c.self.view_is c.requires.is_open) c.requires.reason) c.in-Err.ensures.err)

pub returns-in-Err-clause-cut : goal.returns-in-Err-clause-cut
returns-in-Err-clause-cut g c =
    λ whole.
    let k : Kept = c.self.inside.journal in
    let new : Kept = c.lose.new.journal in
    let b : Bool = c.self.inside.poisoned in
    cut_in (λ S past. lose S c.args.peer c.args.reason past) c.args.self.now k new b c.self.view_is c.in-Err.ensures.err
