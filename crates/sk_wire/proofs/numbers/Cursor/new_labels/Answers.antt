use Rattle.std.proofs.Common.{◌≡◌, ◌+◌, ◌++◌, ◌∷◌, [], List, Ok, subst, sym, ap, true, length, arith}
use Rattle.std.proofs.lemmas.List.{length-append}
use Rattle.std.proofs.lemmas.Result.{err_from_is_err_and}
use Rattle.sk_msg.specs.declared.label.Label.{Label}
use Rattle.sk_msg.specs.Each.{each_after}
use Rattle.sk_msg.specs.Specs.{is_newly_keyed}
use Rattle.sk_wire.specs.Reading.{Fails}
use Rattle.sk_wire.specs.Kinds.{new_label}
use Rattle.sk_wire.proofs.ListLoop.{SoFar, goes_on, ends, each_after-snoc}
use Rattle.sk_wire.proofs.numbers.Cursor.new_labels.Goals as goal

pub returns-in_err-label-clause-read : goal.returns-in_err-label-clause-read
returns-in_err-label-clause-read c =
    let p = err_from_is_err_and c.from_residual.result c.from_residual.ensures.1 in
    let failed : Fails c.in_err-label.field-0.0 ((new_label c.deref.result.now).at c.loop.self) = c.in_err-label.ensures.read in
    let here = subst (λ (labels : List Label). Fails c.in_err-label.field-0.0 ((new_label labels).at c.loop.self)) c.deref.ensures.value failed in
    rw (p.1, p.2) (ends new_label c.in_err-label.field-0.0 c.args.count c.args.self.now c.loop.counter c.loop.labels.items c.loop.self c.loop-test.true here c.loop.invariant.so_far)

pub loop-preserved : goal.loop-preserved
loop-preserved c =
    let read : (new_label c.deref.result.now).at c.loop.self ≡ Ok (c.in_ok-label.label, c.new_label.new.self) = c.in_ok-label.ensures.read in
    let here = subst (λ (labels : List Label). (new_label labels).at c.loop.self ≡ Ok (c.in_ok-label.label, c.new_label.new.self)) c.deref.ensures.value read in
    let fresh : is_newly_keyed c.loop.labels.items c.in_ok-label.label ≡ true = subst (λ (labels : List Label). is_newly_keyed labels c.in_ok-label.label ≡ true) c.deref.ensures.value c.in_ok-label.ensures.new in
    let pushed : c.push.new.self.items ≡ c.loop.labels.items ++ c.in_ok-label.label ∷ [] = c.in_ok-push.ensures.items in
    record {
      so_far = subst (λ (labels : List Label). SoFar new_label c.args.count c.args.self.now (c.loop.counter + 1) labels c.new_label.new.self) (sym pushed)
          (goes_on new_label c.args.count c.args.self.now c.loop.counter c.loop.labels.items c.loop.self c.in_ok-label.label c.new_label.new.self c.loop-test.true here c.loop.invariant.so_far);
      few = let f = c.loop.invariant.few in omega (arith, ap (λ (labels : List Label). length labels) pushed, length-append c.loop.labels.items (c.in_ok-label.label ∷ []), f);
      distinct = subst (λ (labels : List Label). each_after is_newly_keyed [] labels ≡ true) (sym pushed) (each_after-snoc is_newly_keyed [] c.loop.labels.items c.in_ok-label.label c.loop.invariant.distinct fresh);
    }
