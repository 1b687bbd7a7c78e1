use Rattle.std.proofs.Common.{◌≡◌, ◌+◌, ◌-◌, length, List, ap, sym, ◌∙◌, arith}
use Rattle.sk_msg.specs.declared.content.Content.{Content}
use Rattle.sk_wire.specs.Parts.{Open, Whole, Broken, front, parts}
use Rattle.sk_wire.specs.Seen.{seen, following}
use Rattle.sk_wire.proofs.FrontLaws.{broken_within, whole_shorter}
use Rattle.sk_wire.proofs.StreamLaws.{following-open, following-broken, following-whole}
use Rattle.sk_wire.proofs.frames.frames_of.Goals as goal

pub returns-in-Open : goal.returns-in-Open
returns-in-Open c =
    let open_here : front c.loop-messages.rest.now ≡ Open = c.in_ok-front_of.ensures ∙ ap seen c.in-Open.is in
    sym (c.loop-messages.invariant.so_far ∙ following-open c.loop-messages.messages.items _ c.loop-messages.rest.now open_here)

pub overflow_add-result-in-Broken : goal.overflow_add-result-in-Broken
overflow_add-result-in-Broken c =
    let broken : front c.loop-messages.rest.now ≡ Broken c.in-Broken.fault = c.in_ok-front_of.ensures ∙ ap seen c.in-Broken.is in
    omega (arith, broken_within c.loop-messages.rest.now c.in-Broken.fault broken)

pub returns-in-Broken : goal.returns-in-Broken
returns-in-Broken c =
    let broken : front c.loop-messages.rest.now ≡ Broken c.in-Broken.fault = c.in_ok-front_of.ensures ∙ ap seen c.in-Broken.is in
    sym (c.loop-messages.invariant.so_far ∙ following-broken c.loop-messages.messages.items _ c.loop-messages.rest.now c.in-Broken.fault broken)

pub loop-messages-smaller : goal.loop-messages-smaller
loop-messages-smaller c =
    let whole : front c.loop-messages.rest.now ≡ Whole c.in-Whole.message c.in-Whole.behind.now = c.in_ok-front_of.ensures ∙ ap seen c.in-Whole.is in
    whole_shorter c.loop-messages.rest.now c.in-Whole.message c.in-Whole.behind.now whole

pub loop-messages-preserved : goal.loop-messages-preserved
loop-messages-preserved c =
    let before = c.loop-messages.rest.now in
    let behind = c.in-Whole.behind.now in
    let m = c.in-Whole.message in
    let at = c.args.at + (length c.args.bytes.now - length behind) in
    let whole : front before ≡ Whole m behind = c.in_ok-front_of.ensures ∙ ap seen c.in-Whole.is in
    let less = whole_shorter before m behind whole in
    let fits = c.loop-messages.invariant.shorter in
    record {
      shorter = omega arith;
      so_far =
          c.loop-messages.invariant.so_far
          ∙ following-whole c.loop-messages.messages.items (c.args.at + (length c.args.bytes.now - length before)) at before m behind whole (omega arith)
          ∙ ap (λ (ms : List Content). following ms (parts at behind)) (sym c.in_ok-push-in-Whole.ensures.items);
    }
