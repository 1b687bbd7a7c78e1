use Rattle.std.proofs.Common.{◌≡◌}
use Rattle.sk_mesh.specs.Places.{place}
use Rattle.sk_sim.specs.Parts.{TakesAll}
use Rattle.sk_sim.proofs.taking.take_each.Given as goal

abbrev pub invariant-loop-peer : goal.invariant-loop-peer
invariant-loop-peer g l = record {
  place : place l.wired.ends ≡ place l.initial.wired.ends;
  takes : TakesAll l.moved l.initial.wired l.wired (g.A.App.lists l.initial.app) (g.A.App.lists l.app) l.peer;
  origin : g.A.App.origin l.app ≡ g.A.App.origin l.initial.app;
}
