use Rattle.std.proofs.Common.{◌≡◌, take, sym, arith}
use Rattle.std.proofs.lemmas.Grind.{common_steps}
use Rattle.std.proofs.lemmas.List.Elements.{All-more, All-same}
use Rattle.sk_msg.specs.Rules.{IsNamed}
use Rattle.sk_msg.proofs.message.see_labels.Goals as goal

pub loop-label-preserved : goal.loop-label-preserved
loop-label-preserved c =
    All-more IsNamed c.args.labels.now c.loop-label.label-index c.label-item.result (omega arith) c.loop-label.invariant
    (rw (← c.label-item.is) (c.as_str-key.ensures.name, c.as_str-value.ensures.text))

pub returns : goal.returns
returns c =
    let all : take c.loop-label.label-index c.args.labels.now ≡ c.args.labels.now = grind (arith, common_steps) in
    All-same IsNamed c.args.labels.now (take c.loop-label.label-index c.args.labels.now) (sym all) c.loop-label.invariant
