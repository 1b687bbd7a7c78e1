use Rattle.sk_law.specs.declared.memory.ServiceState.TheVariants as states
use Rattle.sk_law.specs.Outcomes.{refused}
use Rattle.sk_node.proofs.Cuts.{on_err}
use Rattle.sk_node.proofs.Wholes.{part_none}
use Rattle.sk_node.proofs.actions.refuse.Goals as goal

pub returns-in_err-add_did-clause-err : goal.returns-in_err-add_did-clause-err
returns-in_err-add_did-clause-err g c =
    on_err c.from_residual.result (part_none c.in_err-add_did.ensures.err (c.blocks_only_add.ensures.does c.args.service (refused 1 states.Subscriber) c.args.journal.now.past))
