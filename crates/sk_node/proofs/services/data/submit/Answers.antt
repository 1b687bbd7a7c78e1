use Rattle.std.specs.Prelude.{is_ok}
use Rattle.std.proofs.Common.{◌∙◌, ap, sym}
use Rattle.sk_law.specs.Outcomes.{caller}
use Rattle.sk_node.proofs.DataLaws.{submit_not}
use Rattle.sk_node.proofs.OpenCalls.{open_is_call}
use Rattle.sk_node.proofs.OtherKinds.{not_server}
use Rattle.sk_node.proofs.services.data.submit.Goals as goal

pub reply-message-requires-clause-call : goal.reply-message-requires-clause-call
reply-message-requires-clause-call c =
    open_is_call c.args.peer c.args.client c.args.call c.in-Server.calls (rw c.in-Server.is at c.requires.calls) (sym c.submit.ensures.answer ∙ ap is_ok c.in-Ok.is)

pub returns-in-Err-clause-outcome : goal.returns-in-Err-clause-outcome
returns-in-Err-clause-outcome c =
    submit_not (caller c.args.journal.now.past c.args.peer) c.args.head c.args.peer c.args.client c.args.call c.args.payload.now c.args.state.now c.in-Server.calls c.submit.new.self c.refused.result
    c.in-Server.is c.in-Err.ensures.same (sym c.submit.ensures.answer ∙ ap is_ok c.in-Err.is) c.refused.ensures

pub returns-in-Can-clause-outcome : goal.returns-in-Can-clause-outcome
returns-in-Can-clause-outcome c = c.refused-in-Can.ensures c.args.state.now ∙ not_server c.args.state.now _ c.in-Can.is
