use Rattle.std.proofs.Common.{◌≡◌, ◌++◌, ◌∷◌, ◌+◌, [], ◌∙◌, sym, ap, length, arith, subst, length-append}
use Rattle.sk_mesh.proofs.Growing.{AllJoined}
use Rattle.sk_mesh.proofs.ByPlace.{take-whole}
use Rattle.sk_mesh.proofs.Growths.{grows, is_mesh, all_unused}
use Rattle.sk_mesh.proofs.making.mesh.Goals as goal

pub loop-number-preserved : goal.loop-number-preserved
loop-number-preserved c =
    let j = c.in_ok-newcomer.ensures in let joined = j.joined in let i = c.loop-number.invariant in
    let now = c.join.new.ends in let newcomer = c.in_ok-newcomer.newcomer in
    let was = c.deref_mut.ensures.value in let len = c.deref_mut.ensures.len in
    let size = joined.size in let before = ap length was in let counted = i.size in
    let items : c.push.new.self.items ≡ now ++ newcomer ∷ [] = c.in_ok-push.ensures.items ∙ ap (λ l. l ++ newcomer ∷ []) (take-whole _ now _ (size ∙ len)) in
    let more : length (now ++ newcomer ∷ []) ≡ length now + 1 = length-append now (newcomer ∷ []) in
    let all : AllJoined c.args.capacity c.deref_mut.result.now = subst (AllJoined c.args.capacity) (sym was) i.joined in
    record {
      size = ap length items ∙ omega arith;
      joined = subst (AllJoined c.args.capacity) (sym items) (grows c.args.capacity c.deref_mut.result.now now newcomer all joined (omega arith));
    }

pub returns-clause-mesh : goal.returns-clause-mesh
returns-clause-mesh c = is_mesh c.args.capacity c.loop-number.ends.items c.loop-number.invariant.joined

pub returns-clause-unused : goal.returns-clause-unused
returns-clause-unused c = all_unused c.args.capacity c.loop-number.ends.items c.loop-number.invariant.joined
