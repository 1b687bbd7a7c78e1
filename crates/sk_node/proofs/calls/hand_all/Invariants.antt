use Rattle.std.specs.Prelude.{◌≡◌, Some, take}
use Rattle.sk_law.specs.Told.{message_at}
use Rattle.sk_node.specs.Calls.{CallsAll, handings}
use Rattle.sk_node.proofs.calls.hand_all.Given as goal

abbrev pub invariant-loop-service : goal.invariant-loop-service
invariant-loop-service g l = record {
  there : message_at l.journal.past.journal l.peer l.place ≡ Some l.message;
  calls : CallsAll l.fn.journal l.journal (handings l.peer l.place l.message (take l.service-index l.services)) (g.A.App.lists l.fn.app) (g.A.App.lists l.app);
  origin : g.A.App.origin l.app ≡ g.A.App.origin l.fn.app;
}
