use Rattle.std.proofs.Common.{◌≡◌, ℕ, Err, sym, ap, subst, ◌∙◌, arith}
use Rattle.sk_msg.specs.declared.content.Content.{Content}
use Rattle.sk_wire.specs.Grammar.{body_at}
use Rattle.sk_wire.specs.Reading.{Fails}
use Rattle.sk_wire.specs.Stream.{Announces}
use Rattle.sk_wire.specs.Parts.{Whole, Broken, front_by, front}
use Rattle.sk_wire.proofs.FrontLaws.{front-short, front-low, front-high, front-cut, front-split, whole_spelled}
use Rattle.sk_wire.proofs.frames.front_of.Goals as goal
use Rattle.sk_wire.proofs.frames.front_of.Goals.{In-Ok}

pub returns-then-bytes-lt-LENGTH_BYTES : goal.returns-then-bytes-lt-LENGTH_BYTES
returns-then-bytes-lt-LENGTH_BYTES c = front-short c.args.bytes.now (omega arith)

pub returns-then-announced-lt-SHORTEST_BODY : goal.returns-then-announced-lt-SHORTEST_BODY
returns-then-announced-lt-SHORTEST_BODY c = front-low c.args.bytes.now (omega arith) (omega arith)

pub returns-then-announced-gt-LONGEST_BODY : goal.returns-then-announced-gt-LONGEST_BODY
returns-then-announced-gt-LONGEST_BODY c = front-high c.args.bytes.now (omega arith) (omega arith)

pub returns-then-behind-announced : goal.returns-then-behind-announced
returns-then-behind-announced c =
    let a : Announces c.args.bytes.now = record { head = omega arith; least = omega arith; most = omega arith } in
    front-cut c.args.bytes.now a (omega arith)

whole_front : (c : In-Ok) → front c.args.bytes.now ≡ Whole c.in-Ok.content c.split_at-2.result.1.now
whole_front c =
    front-split c.args.bytes.now c.split_at.result.1.now c.split_at-2.result.0.now c.split_at-2.result.1.now c.announced_in-announced.result
    (omega arith) (omega arith) (omega arith) c.announced_in-announced.ensures c.split_at.ensures.back (omega arith) c.split_at-2.ensures.front c.split_at-2.ensures.back
    ∙ ap (front_by c.announced_in-announced.result c.split_at-2.result.1.now) c.in-Ok.ensures

pub new-requires : goal.new-requires
new-requires c = (whole_spelled c.args.bytes.now c.in-Ok.content c.split_at-2.result.1.now (λ i. omega (arith, c.type_inv.bytes i)) (whole_front (goal.at.new-requires c).In-Ok)).0

pub returns-in-Ok : goal.returns-in-Ok
returns-in-Ok c = whole_front (goal.at.returns-in-Ok c).In-Ok ∙ ap (λ (m : Content). Whole m c.split_at-2.result.1.now) (sym c.new.ensures)

pub returns-in-Fault : goal.returns-in-Fault
returns-in-Fault c =
    let fails : Fails c.in-Err.error (body_at c.split_at-2.result.0.now) = c.in-Err.ensures in
    let err : body_at c.split_at-2.result.0.now ≡ Err c.in-Fault.fault = subst (λ e. Fails e (body_at c.split_at-2.result.0.now)) c.in-Fault.is fails in
    front-split c.args.bytes.now c.split_at.result.1.now c.split_at-2.result.0.now c.split_at-2.result.1.now c.announced_in-announced.result
    (omega arith) (omega arith) (omega arith) c.announced_in-announced.ensures c.split_at.ensures.back (omega arith) c.split_at-2.ensures.front c.split_at-2.ensures.back
    ∙ ap (front_by c.announced_in-announced.result c.split_at-2.result.1.now) err
    ∙ ap (λ (at : ℕ). Broken (record { at = at; what = c.in-Fault.fault.what })) (sym c.saturating_sub.ensures)
