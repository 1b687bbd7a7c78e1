use Rattle.std.proofs.Common.{◌≡◌, refl, List, [], ◌∷◌, ◌++◌, ℕ, ◌+◌, length, true, sym, subst, ap, arith}
use Rattle.std.specs.Prelude.{◌==◌}
use Rattle.std.proofs.lemmas.Bool.{and_from, and_parts, eq-eqb}
use Rattle.sk_msg.specs.declared.service.Service.{Service}
use Rattle.sk_pubsub.specs.Announcing.{are_numbered}
use Rattle.sk_node_tables.proofs.play.copy_services.Goals as goal

one_more : (next : ℕ) (services : List Service) (service : Service) → are_numbered next services ≡ true → service.id ≡ next + length services
    → are_numbered next (services ++ service ∷ []) ≡ true
one_more next [] service each same = and_from _ _ (eq-eqb service.id next (omega (arith, same))) refl
one_more next (first ∷ services) service each same =
    let both = and_parts (first.id == next) (are_numbered (next + 1) services) each in
    and_from _ _ both.0 (one_more (next + 1) services service both.1 (omega (arith, same)))

pub loop-service-preserved : goal.loop-service-preserved
loop-service-preserved c =
    let filled : length c.as_slice.result.now ≡ length c.loop-service.copies.items = ap (λ (services : List Service). length services) c.as_slice.ensures.value in
    let same : c.in_ok-copy.copy.id ≡ 0 + length c.loop-service.copies.items = omega (arith, filled, c.if-copy-as_slice.false) in
    subst (λ (services : List Service). are_numbered 0 services ≡ true) (sym c.in_ok-push.ensures.items)
    (one_more 0 c.loop-service.copies.items c.in_ok-copy.copy c.loop-service.invariant same)
