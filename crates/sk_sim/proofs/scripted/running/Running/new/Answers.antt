use Rattle.sk_sim.proofs.PartRules.{ready_fits, rules_fit}
use Rattle.sk_sim.proofs.scripted.running.Running.new.Goals as goal

pub new-requires-clause-actions : goal.new-requires-clause-actions
new-requires-clause-actions c = rw (c.scope.ensures.value, c.ready.ensures.value) (ready_fits c.args.part.now c.ready.ensures.rules)

pub new-requires-clause-rules : goal.new-requires-clause-rules
new-requires-clause-rules c = rw (c.scope.ensures.value, c.script.ensures.value) (rules_fit c.args.part.now c.script.ensures.rules)
