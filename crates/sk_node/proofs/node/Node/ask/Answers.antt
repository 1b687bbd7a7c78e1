use Rattle.std.specs.Prelude.{◌≡◌, Bool}
use Rattle.std.proofs.Common.{ap, sym, subst}
use Rattle.sk_law.specs.Past.{Past}
use Rattle.sk_law.specs.Blocks.{judge_limits, ask}
use Rattle.sk_law.specs.Lawful.{asks, note_asked}
use Rattle.sk_law.specs.Kept.{Kept}
use Rattle.sk_node.specs.Peers.{HearsNothing}
use Rattle.sk_node.proofs.Rowing.{part_cut}
use Rattle.sk_node.proofs.Serving.{went_whole, serves_in, stops_in, cut_in, sound_in, sound_stopped, holds_in}
use Rattle.sk_node.proofs.OpenLinks.{hears_nothing}
use Rattle.sk_node.proofs.Getting.{asked_calm}
use Rattle.sk_node.proofs.node.Node.ask.Goals as goal

pub invariant_of-self : goal.invariant_of-self
invariant_of-self g c =
    let k : Kept = c.self.inside.journal in
    let new : Kept = c.ask.new.journal in
    let b : Bool = c.self.inside.poisoned in
    sound_in c.limits_hold.ensures k new b c.if-self.false (went_whole (asks c.args.command) c.in-Ok.ensures.ok) c.sound.ensures.all c.sound.ensures.within

pub invariant_of-self-in-Err : goal.invariant_of-self-in-Err
invariant_of-self-in-Err g c =
    let k : Kept = c.self.inside.journal in
    let new : Kept = c.ask.new.journal in
    let b : Bool = c.self.inside.poisoned in
    sound_stopped new c.sound-in-Err.ensures.all c.sound-in-Err.ensures.within

pub returns-in-Ok-clause-ok : goal.returns-in-Ok-clause-ok
returns-in-Ok-clause-ok g c =
    let k : Kept = c.self.inside.journal in
    let new : Kept = c.ask.new.journal in
    let b : Bool = c.self.inside.poisoned in
    serves_in c.blocks_only_add.ensures c.turns_come_to_an_end.ensures c.args.self.now k new b c.self.view_is c.if-self.false (went_whole (asks c.args.command) c.in-Ok.ensures.ok)

pub returns-in-Ok-clause-asks : goal.returns-in-Ok-clause-asks
returns-in-Ok-clause-asks g c =
    let k : Kept = c.self.inside.journal in
    let new : Kept = c.ask.new.journal in
    let b : Bool = c.self.inside.poisoned in
    holds_in (λ S past now. now ≡ judge_limits S (ask S c.args.command (note_asked past))) c.args.self.now k b new.past c.self.view_is (ap (λ (x : Kept). x.past) c.in-Ok.ensures.ok.past)

pub returns-in-Ok-clause-hears : goal.returns-in-Ok-clause-hears
returns-in-Ok-clause-hears g c =
    let k : Kept = c.self.inside.journal in
    let new : Kept = c.ask.new.journal in
    let b : Bool = c.self.inside.poisoned in
    holds_in (λ S past now. HearsNothing S past now) c.args.self.now k b new.past c.self.view_is
    (subst (λ (x : Past). HearsNothing k.setup k.past x) (sym (ap (λ (x : Kept). x.past) c.in-Ok.ensures.ok.past)) (hears_nothing k.setup k.past (judge_limits k.setup (ask k.setup c.args.command (note_asked k.past))) (asked_calm k.setup c.args.command k.past)))

pub returns-in-Err-clause-err : goal.returns-in-Err-clause-err
returns-in-Err-clause-err g c =
    λ whole.
    let k : Kept = c.self.inside.journal in
    let new : Kept = c.ask.new.journal in
    let b : Bool = c.self.inside.poisoned in
    stops_in c.args.self.now k new b c.self.view_is (part_cut (asks c.args.command) c.in-Err.ensures.err)

pub returns-in-Err-clause-cut : goal.returns-in-Err-clause-cut
returns-in-Err-clause-cut g c =
    λ whole.
    let k : Kept = c.self.inside.journal in
    let new : Kept = c.ask.new.journal in
    let b : Bool = c.self.inside.poisoned in
    cut_in (λ S past. ask S c.args.command (note_asked past)) c.args.self.now k new b c.self.view_is c.in-Err.ensures.err
