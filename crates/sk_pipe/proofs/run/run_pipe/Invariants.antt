use Rattle.std.proofs.Common.{◌≡◌, ◌++◌, List, true}
use Rattle.sk_base.specs.Talk.{Said}
use Rattle.sk_pipe.specs.Session.{Follows, budget}
use Rattle.sk_pipe.proofs.run.run_pipe.Given as goal

abbrev pub invariant-turns : goal.invariant-turns
invariant-turns g l = record {
  step_is : l.session.peer.step ≡ l.fn.plan.step;
  duration_is : l.session.peer.duration ≡ l.fn.plan.duration;
  tells : g.L.Link.tells l.link ≡ g.L.Link.tells l.fn.link;
  faults : g.L.Link.faults l.link ≡ g.L.Link.faults l.fn.link;
  talk : g.L.Link.tells l.fn.link ≡ true → (talk : List Said) × (g.L.Link.talk l.link ≡ g.L.Link.talk l.fn.link ++ talk) × Follows l.fn.plan.name talk l.session;
}

abbrev pub decreases-turns : goal.decreases-turns
decreases-turns g l = budget l.session
