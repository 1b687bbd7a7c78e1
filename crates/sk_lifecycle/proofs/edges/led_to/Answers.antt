use Rattle.std.proofs.Common.{sym}
use Rattle.sk_lifecycle.proofs.ToldLaws.{has_edge-led_to, told-led_to}
use Rattle.sk_lifecycle.proofs.edges.led_to.Goals as goal

pub returns-clause-edge : goal.returns-clause-edge
returns-clause-edge c = has_edge-led_to c.args.from c.args.command c.first_led_to.result (sym c.first_led_to.ensures)

pub returns-clause-told : goal.returns-clause-told
returns-clause-told c = told-led_to c.args.from c.args.command c.first_led_to.result (sym c.first_led_to.ensures)
