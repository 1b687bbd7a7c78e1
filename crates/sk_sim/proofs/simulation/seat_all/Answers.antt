use Rattle.std.proofs.Common.{◌<◌, sym, ◌∙◌, subst}
use Rattle.std.proofs.lemmas.List.{length-map}
use Rattle.sk_mesh.specs.Places.{place}
use Rattle.sk_sim.proofs.Seating.{next, seats_push, places_push, fresh_first, fresh_rest, seats_count}
use Rattle.sk_sim.proofs.simulation.seat_all.Goals as goal

pub seat-requires : goal.seat-requires
seat-requires c =
    let h = c.in-Some.ensures.steps in let i = c.loop-own.invariant in
    let n = next _ c.in-Some.own _ _ _ c.requires.mesh i.all h.0 in
    let count = length-map c.args.ends.items place ∙ c.requires.count in
    record { number = subst (λ k. c.in-Some.own.number < k) count n.within; size = n.ways ∙ count; fresh = fresh_first c.in-Some.own _ _ h.0 i.fresh }

pub loop-own-preserved : goal.loop-own-preserved
loop-own-preserved c =
    let h = c.in-Some.ensures.steps in let i = c.loop-own.invariant in let s = c.in_ok-seat in
    let n = next _ c.in-Some.own _ _ _ c.requires.mesh i.all h.0 in record {
      of = seats_push _ _ _ s.seat _ i.of s.ensures.of n.number c.in_ok-push.ensures.items;
      fresh = fresh_rest c.in-Some.own _ _ h.0 i.fresh;
      all = places_push _ _ s.seat c.in-Some.own _ _ _ i.all h.0 s.ensures.ends c.in_ok-push.ensures.items;
    }

pub returns-clause-unturned : goal.returns-clause-unturned
returns-clause-unturned c = λ i v at_v. (c.loop-own.invariant.of i v at_v).unturned

pub returns-clause-of : goal.returns-clause-of
returns-clause-of c =
    let i = c.loop-own.invariant in let none = sym c.loop-own.own-iterator.rest.ok.0 ∙ c.in-None.ensures.steps.0 in
    record { count = seats_count _ _ c.args.ends.items _ i.all none c.requires.count; each = i.of }
