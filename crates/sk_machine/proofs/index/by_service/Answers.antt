use Rattle.std.proofs.Common.{◌∙◌}
use Rattle.sk_machine.proofs.Indexing.{one_service_more}
use Rattle.sk_machine.proofs.index.by_service.Goals as goal

pub loop-service-preserved : goal.loop-service-preserved
loop-service-preserved c =
    one_service_more c.args.rules.now c.loop-service.service c.loop-service.on.items c.push.new.self.items c.new.result
    c.loop-service.invariant c.in_ok-push.ensures.items (c.new.ensures ∙ c.in_ok-rules_of.ensures)
