use Rattle.std.proofs.Common.{◌≡◌, ℕ, ◌+◌, ◌++◌, ◌∷◌, [], List, Ok, subst, sym}
use Rattle.std.proofs.lemmas.Result.{err_from_is_err_and}
use Rattle.sk_wire.specs.Reading.{Fails}
use Rattle.sk_wire.specs.Kinds.{new_name}
use Rattle.sk_wire.proofs.ListLoop.{SoFar, goes_on, ends}
use Rattle.sk_wire.proofs.numbers.Cursor.new_names.Goals as goal

pub returns-in_err-name : goal.returns-in_err-name
returns-in_err-name c =
    let p = err_from_is_err_and c.from_residual.result c.from_residual.ensures.1 in
    let failed : Fails c.in_err-name.field-0.0 ((new_name c.deref.result.now).at c.loop.self) = c.in_err-name.ensures in
    let here = subst (λ (names : List (List ℕ)). Fails c.in_err-name.field-0.0 ((new_name names).at c.loop.self)) c.deref.ensures.value failed in
    rw (p.1, p.2) (ends new_name c.in_err-name.field-0.0 c.args.count c.args.self.now c.loop.counter c.loop.names.items c.loop.self c.loop-test.true here c.loop.invariant)

pub loop-preserved : goal.loop-preserved
loop-preserved c =
    let read : (new_name c.deref.result.now).at c.loop.self ≡ Ok (c.in_ok-name.name, c.new_name.new.self) = c.in_ok-name.ensures in
    let here = subst (λ (names : List (List ℕ)). (new_name names).at c.loop.self ≡ Ok (c.in_ok-name.name, c.new_name.new.self)) c.deref.ensures.value read in
    let pushed : c.push.new.self.items ≡ c.loop.names.items ++ c.in_ok-name.name ∷ [] = c.in_ok-push.ensures.items in
    subst (λ (names : List (List ℕ)). SoFar new_name c.args.count c.args.self.now (c.loop.counter + 1) names c.new_name.new.self) (sym pushed)
    (goes_on new_name c.args.count c.args.self.now c.loop.counter c.loop.names.items c.loop.self c.in_ok-name.name c.new_name.new.self c.loop-test.true here c.loop.invariant)
