use Rattle.sk_sim_tests.proofs.Seating.{two_names, three_names}
use Rattle.sk_sim_tests.proofs.making.names.Goals as goal

pub returns-then-not-are_three : goal.returns-then-not-are_three
returns-then-not-are_three c = rw c.new-then-not-are_three.ensures (rw c.in_ok-push-2.ensures.items (rw c.in_ok-push.ensures.items (rw c.new-names.ensures.items
    (rw c.in_ok-new.ensures.made.0 (rw c.in_ok-new-2.ensures.made.0 two_names)))))

pub returns : goal.returns
returns c = rw c.new-4.ensures (rw c.in_ok-push-3.ensures.items (rw c.in_ok-push-2.ensures.items (rw c.in_ok-push.ensures.items (rw c.new-names.ensures.items
    (rw c.in_ok-new.ensures.made.0 (rw c.in_ok-new-2.ensures.made.0 (rw c.in_ok-new-3.ensures.made.0 three_names)))))))
