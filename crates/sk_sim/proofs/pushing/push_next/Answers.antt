use Rattle.std.proofs.Common.{◌||◌, ◌+◌, sym, ◌∙◌, ap, subst}
use Rattle.sk_sim.specs.Parts.{Pushes}
use Rattle.sk_sim.proofs.Outgoing.{next_own, next_one}
use Rattle.sk_sim.proofs.pushing.push_next.Goals as goal

pub returns-then-peer-own-clause-pushes : goal.returns-then-peer-own-clause-pushes
returns-then-peer-own-clause-pushes c = next_own c.args.moved c.args.wired.now c.args.peer (c.if-peer-own.true ∙ c.requires.own)

pub returns-then-moved-clause-pushes : goal.returns-then-moved-clause-pushes
returns-then-moved-clause-pushes c = λ start h.
    let e = c.if-moved.true in let p = c.push_one-pushed.result in
    subst (λ x. Pushes x start c.push_one-pushed.new.wired (c.args.peer + 1)) (ap (λ b. b || p) e ∙ sym e) (next_one c.args.moved p c.args.wired.now _ c.args.peer c.push_one-pushed.ensures.pushes c.requires.within start h)

pub returns-else-moved-clause-pushes : goal.returns-else-moved-clause-pushes
returns-else-moved-clause-pushes c = λ start h.
    let p = c.push_one-pushed.result in
    subst (λ x. Pushes x start c.push_one-pushed.new.wired (c.args.peer + 1)) (ap (λ b. b || p) c.if-moved.false) (next_one c.args.moved p c.args.wired.now _ c.args.peer c.push_one-pushed.ensures.pushes c.requires.within start h)
