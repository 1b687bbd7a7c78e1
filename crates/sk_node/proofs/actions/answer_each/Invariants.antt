use Rattle.std.specs.Prelude.{◌≡◌, take}
use Rattle.sk_law.specs.Blocks.{answers}
use Rattle.sk_node.specs.Lists.{Whole}
use Rattle.sk_node.proofs.actions.answer_each.Given as goal

abbrev pub invariant-loop-action : goal.invariant-loop-action
invariant-loop-action g l = record {
  whole : Whole l.fn.journal l.journal (answers l.fn.journal.setup (take l.action-index l.actions) l.fn.journal.past) (g.A.App.lists l.fn.app) (g.A.App.lists l.app);
  origin : g.A.App.origin l.app ≡ g.A.App.origin l.fn.app;
}
