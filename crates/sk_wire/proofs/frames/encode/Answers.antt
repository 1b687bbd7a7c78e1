use Rattle.std.proofs.Common.{◌≡◌, true, length, List, ℕ, ap, arith, length-append, ◌∙◌}
use Rattle.sk_msg.specs.Rules.{is_message}
use Rattle.sk_wire.specs.Grammar.{spelling}
use Rattle.sk_wire.proofs.GrammarLaws.{body_bound, length_spelling}
use Rattle.sk_wire.proofs.frames.encode.Goals as goal

pub returns-in-Ok-clause-size : goal.returns-in-Ok-clause-size
returns-in-Ok-clause-size c =
    let m = c.content.result.now in
    let rules : is_message m ≡ true = ap is_message c.content.ensures.value ∙ c.content.ensures.rules in
    let bound = body_bound m rules in
    let all = ap (λ (xs : List ℕ). length xs) c.in-Ok.ensures ∙ length-append c.args.to.now.items (spelling m) in
    let frame = length_spelling m in
    (omega arith, omega arith)
