use Rattle.sk_node.proofs.OpenCalls.{still_calls}
use Rattle.sk_node.proofs.actions.outcome.Goals as goal

pub returns-in_ok-answer-in-Some-clause-calls : goal.returns-in_ok-answer-in-Some-clause-calls
returns-in_ok-answer-in-Some-clause-calls c =
    still_calls c.args.journal.now.setup c.args.journal.now.past c.args.action.now c.in-Some.own.now c.args.state c.act.new.state c.in_ok-answer-in-Some.answer c.in_ok-answer-in-Some.ensures.outcome c.requires.calls
