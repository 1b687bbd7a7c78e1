use Rattle.std.proofs.Common.{rules}
use Rattle.sk_timesync.proofs.RuleLaws.{first_by_number}
use Rattle.sk_timesync.proofs.steps.Steps.may_begin.Goals as goal

pub returns-in-Some-clause-answer : goal.returns-in-Some-clause-answer
returns-in-Some-clause-answer c =
    let index = rw c.deref.ensures.value at c.in-Some.ensures.index in
    let first = first_by_number c.self.inside.next c.self.inside.peers.items c.in-Some.peer.now index.0 c.self.invariant.rising index.1 index.2 c.in-Some.ensures.holds in
    rw (← c.self.view_is, c.number.ensures, c.announced.ensures) (search rules, first)
