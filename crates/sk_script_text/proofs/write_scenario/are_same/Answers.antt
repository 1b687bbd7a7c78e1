use Rattle.sk_script_text.proofs.WriteLaws.{not_same}
use Rattle.sk_script_text.proofs.write_scenario.are_same.Goals as goal

pub returns-then-names-others : goal.returns-then-names-others
returns-then-names-others c = not_same c.args.names.now c.args.others.now c.if-names-others.true
