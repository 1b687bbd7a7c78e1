use Rattle.sk_script.proofs.PartLaws.{part_rules}
use Rattle.sk_script.proofs.part.read_part.Goals as goal

pub make-requires : goal.make-requires
make-requires c = record {
  rules = rw c.in_ok-own.ensures.value
      (part_rules c.args.at.now _ c.in_ok-path.path c.in_ok-name.name c.is_coordinated-coordinated.result c.in_ok-step.step c.in_ok-services.services.items c.in_ok-vars.vars c.in_ok-ready.ready c.in_ok-script.script
      c.in_ok-name.ensures c.in_ok-step.ensures c.in_ok-services.ensures c.in_ok-vars.ensures.rules c.in_ok-ready.ensures c.in_ok-script.ensures
      c.actions_keep_rules.ensures c.rules_keep_rules.ensures c.in_ok-config.config c.in_ok-own.ensures.rules);
}
