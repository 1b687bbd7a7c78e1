use Rattle.std.proofs.Common.{◌∙◌}
use Rattle.sk_node.proofs.Acting.{asked_is, paused_is}
use Rattle.sk_node.proofs.services.act.Goals as goal

pub returns-in-Ask-clause-outcome : goal.returns-in-Ask-clause-outcome
returns-in-Ask-clause-outcome c =
    c.refused.ensures c.args.state.now ∙ asked_is c.args.journal.now.setup c.args.journal.now.past c.args.action.now c.in-Ask.field-0 c.args.own.now c.args.state.now c.in-Ask.is

pub returns-in-PauseFor-clause-outcome : goal.returns-in-PauseFor-clause-outcome
returns-in-PauseFor-clause-outcome c =
    c.refused-in-PauseFor.ensures c.args.state.now
    ∙ paused_is c.args.journal.now.setup c.args.journal.now.past c.args.action.now c.in-PauseFor.field-0 c.args.own.now c.args.state.now c.in-PauseFor.is
