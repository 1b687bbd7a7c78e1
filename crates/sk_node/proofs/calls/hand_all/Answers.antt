use Rattle.std.proofs.Common.{◌≡◌, Some, get_or, refl, subst, sym, ◌∙◌}
use Rattle.sk_law.specs.Growing.{Adds}
use Rattle.sk_law.specs.Kept.{Kept}
use Rattle.sk_law.specs.Told.{message_at}
use Rattle.sk_node.proofs.Cuts.{on_err}
use Rattle.sk_node.proofs.Handing.{calls_none, calls_more, calls_cut, item_at, still_there}
use Rattle.sk_node.proofs.calls.hand_all.Goals as goal

pub loop-service-init : goal.loop-service-init
loop-service-init g c = record { there = c.requires.there; calls = calls_none c.args.journal.now (g.A.App.lists c.args.app.now); origin = refl }

pub returns-in_err-hand-clause-err : goal.returns-in_err-hand-clause-err
returns-in_err-hand-clause-err g c =
    on_err c.from_residual.result
    (calls_cut c.blocks_only_add.ensures c.args.journal.now c.loop-service.journal c.hand.new.journal (g.A.App.lists c.args.app.now) (g.A.App.lists c.loop-service.app) (g.A.App.lists c.hand.new.app)
    c.args.peer c.args.place c.args.message.now c.loop-service.service-index c.args.services.now (get_or c.args.services.now c.loop-service.service-index 0) c.loop-service-test.true (item_at c.args.services.now c.loop-service.service-index c.loop-service-test.true) c.loop-service.invariant.calls c.in_err-hand.ensures.err)

pub loop-service-preserved : goal.loop-service-preserved
loop-service-preserved g c =
    let k : Kept = c.loop-service.journal in
    record {
      there = subst (λ (x : Kept). message_at x.past.journal c.args.peer c.args.place ≡ Some c.args.message.now) (sym c.in_ok-hand.ensures.ok.past)
          (still_there c.args.peer c.args.place c.args.message.now (c.blocks_only_add.ensures.calls_back k.setup k.past c.in_ok-hand.ensures.ok.one) c.loop-service.invariant.there);
      calls = calls_more c.args.journal.now k c.hand.new.journal (g.A.App.lists c.args.app.now) (g.A.App.lists c.loop-service.app) (g.A.App.lists c.hand.new.app)
          c.args.peer c.args.place c.args.message.now c.loop-service.service-index c.args.services.now (get_or c.args.services.now c.loop-service.service-index 0) c.loop-service-test.true (item_at c.args.services.now c.loop-service.service-index c.loop-service-test.true) c.loop-service.invariant.calls c.in_ok-hand.ensures.ok;
      origin = c.hand.ensures.origin ∙ c.loop-service.invariant.origin;
    }
