use Rattle.std.proofs.Common.{refl, ap, ◌∙◌}
use Rattle.std.proofs.lemmas.Result.{err_from_is_err_and}
use Rattle.sk_script.specs.Reading.{parts_of, uris_of}
use Rattle.sk_script.proofs.WholeLaws.{scenario_rules, scenario_rest, rest_refused}
use Rattle.sk_script.proofs.read.read_value.Goals as goal

pub returns-in_err-required : goal.returns-in_err-required
returns-in_err-required c =
    let r = c.from_residual-in_err-required in
    let p = err_from_is_err_and r.result r.ensures.1 in
    let taken = c.in_ok-parts.ensures.parts ∙ ap parts_of c.in_ok-in_order.ensures in
    let differ = rw c.deref.ensures.value at c.in_ok-are_distinct.ensures in
    let rest = scenario_rest c.args.at.now _ _ _ _ c.in_ok-reads.reads.items _ _ _ c.in_ok-key.ensures c.in_ok-key-2.ensures c.in_ok-enter.ensures c.in_ok-duration.ensures c.in_ok-given.ensures c.in_ok-reads.ensures differ in
    let refused = rw (c.deref-3.ensures.value, taken) at c.in_err-required.ensures in
    rw (p.1, p.2, rest) (rest_refused _ _ _ refused)

pub invariant_of-result : goal.invariant_of-result
invariant_of-result c =
    let taken = c.in_ok-parts.ensures.parts ∙ ap parts_of c.in_ok-in_order.ensures in
    let differ = rw c.deref.ensures.value at c.in_ok-are_distinct.ensures in
    let stand = rw (c.deref-3.ensures.value, taken) at c.in_ok-required.ensures in
    let fine = rw taken at c.in_ok-parts.ensures.rules in
    rw taken (scenario_rules c.args.at.now _ _ _ c.in_ok-reads.reads.items _ _ _ _ c.in_ok-duration.ensures c.in_ok-given.ensures c.in_ok-reads.ensures differ stand fine)

pub returns : goal.returns
returns c =
    let taken = c.in_ok-parts.ensures.parts ∙ ap parts_of c.in_ok-in_order.ensures in
    let uris = c.in_ok-parts.ensures.uris ∙ ap uris_of c.in_ok-in_order.ensures in
    let differ = rw c.deref.ensures.value at c.in_ok-are_distinct.ensures in
    let rest = scenario_rest c.args.at.now _ _ _ _ c.in_ok-reads.reads.items _ _ _ c.in_ok-key.ensures c.in_ok-key-2.ensures c.in_ok-enter.ensures c.in_ok-duration.ensures c.in_ok-given.ensures c.in_ok-reads.ensures differ in
    let stand = rw (c.deref-3.ensures.value, taken) at c.in_ok-required.ensures in
    let said = rw c.deref-2.ensures.value at c.in_ok-warnings.ensures in
    rw (rest, stand, taken, uris, said) refl
