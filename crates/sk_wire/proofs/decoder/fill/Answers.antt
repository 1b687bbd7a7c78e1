use Rattle.std.proofs.Common.{◌≡◌, ◌≤◌, length, inl, inr, arith, ap, ◌∙◌}
use Rattle.sk_wire.specs.Faults.{announced}
use Rattle.sk_wire.proofs.FrontLaws.{open_known, head_bound, body_bound_of, open_below}
use Rattle.sk_wire.proofs.decoder.fill.Goals as goal

pub returns-then-announced-lt-SHORTEST_BODY-clause-all : goal.returns-then-announced-lt-SHORTEST_BODY-clause-all
returns-then-announced-lt-SHORTEST_BODY-clause-all c = λ o.
    let ann : c.announced_in-announced.result ≡ announced c.fill_to.new.buffer.items = c.announced_in-announced.ensures ∙ ap announced c.deref.ensures.value in
    elim (open_known c.fill_to.new.buffer.items o) [
      | inl lt ↦ absurd (omega arith)
      | inr a ↦ absurd (omega (arith, a.0.least, a.0.most, c.then-announced-lt-SHORTEST_BODY.either))
    ]

pub returns-clause-most : goal.returns-clause-most
returns-clause-most c = λ a.
    let ann : c.announced_in-announced.result ≡ announced c.fill_to.new.buffer.items = c.announced_in-announced.ensures ∙ ap announced c.deref.ensures.value in
    let head : 4 ≤ length c.fill_to.new.buffer.items = omega arith in
    let mid = head_bound c.args.buffer.now.items c.fill_to.new.buffer.items c.args.piece.now c.in_ok-head.head c.requires c.in_ok-head.ensures.used.1 c.in_ok-head.ensures.most head in
    body_bound_of c.fill_to.new.buffer.items c.fill_to-2.new.buffer.items c.split_at.result.1.now c.in_ok-more.more c.announced_in-announced.result c.in_ok-more.ensures.used.1 c.in_ok-more.ensures.most head ann mid

pub returns-clause-all : goal.returns-clause-all
returns-clause-all c = λ o.
    let ann : c.announced_in-announced.result ≡ announced c.fill_to.new.buffer.items = c.announced_in-announced.ensures ∙ ap announced c.deref.ensures.value in
    let head : 4 ≤ length c.fill_to.new.buffer.items = omega arith in
    let short = open_below c.fill_to.new.buffer.items c.fill_to-2.new.buffer.items c.split_at.result.1.now c.in_ok-more.more c.in_ok-more.ensures.used.1 head o in
    let more = c.in_ok-more.ensures.all (omega arith) in
    omega (arith, more, c.split_at.ensures.back_len)
