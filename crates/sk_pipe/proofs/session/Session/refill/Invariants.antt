use Rattle.std.proofs.Common.{◌<◌, ◌≤◌, ℕ, List, length}
use Rattle.sk_base.specs.Talk.{Said}
use Rattle.sk_pipe.specs.Session.{Follows, KeepsHeard, budget}
use Rattle.sk_pipe.proofs.session.Session.refill.Given as goal

abbrev pub invariant-loop : goal.invariant-loop
invariant-loop l = record {
  heard : KeepsHeard l.initial.self l.self;
  ready : 0 < length l.self.connection.queued;
  follows : (name : List ℕ) (talk : List Said) → Follows name talk l.initial.self → Follows name talk l.self;
  smaller : budget l.self ≤ budget l.initial.self;
}
