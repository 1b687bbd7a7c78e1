use Rattle.sk_sim_tests.proofs.Seating.{seats_push, places_push, fresh_rest}
use Rattle.sk_sim_tests.proofs.making.seat_all.Goals as goal

pub loop-own-preserved : goal.loop-own-preserved
loop-own-preserved g c = let h = c.in-Some.ensures.steps in let i = c.loop-own.invariant in let s = c.in_ok-make_seat in record {
  made = seats_push _ _ _ s.field-0 i.made s.ensures.made c.in_ok-push.ensures.items;
  fresh = fresh_rest c.in-Some.own _ _ h.0 i.fresh;
  all = places_push _ _ s.field-0 c.in-Some.own _ _ _ i.all h.0 s.ensures.place c.in_ok-push.ensures.items;
}
