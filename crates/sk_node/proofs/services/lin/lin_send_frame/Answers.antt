use Rattle.std.proofs.Common.{◌∙◌}
use Rattle.sk_law.specs.Links.{reached}
use Rattle.sk_node.proofs.LinLaws.{frame_sent, frame_not}
use Rattle.sk_node.proofs.OtherKinds.{not_lin}
use Rattle.sk_node.proofs.services.lin.lin_send_frame.Goals as goal

pub returns-in_ok-answer-in-Ok-clause-outcome : goal.returns-in_ok-answer-in-Ok-clause-outcome
returns-in_ok-answer-in-Ok-clause-outcome c =
    frame_sent (reached c.args.journal.now.setup c.args.journal.now.past) c.args.head c.in_ok-kept-in-Lin.kept c.args.response.now c.args.state.now c.in-Lin.lin c.send_frame.new.self c.in-Ok.frame c.in_ok-answer-in-Ok.answer
    c.in-Lin.is c.in_ok-kept-in-Lin.ensures c.in-Ok.ensures.ok c.in-Ok.ensures.kept c.in-Ok.ensures.accepted c.in_ok-answer-in-Ok.ensures

pub returns-in_ok-refusal-in-Err-clause-outcome : goal.returns-in_ok-refusal-in-Err-clause-outcome
returns-in_ok-refusal-in-Err-clause-outcome c =
    frame_not (reached c.args.journal.now.setup c.args.journal.now.past) c.args.head c.in_ok-kept-in-Lin.kept c.args.response.now c.args.state.now c.in-Lin.lin c.send_frame.new.self c.in-Err.reason c.in_ok-refusal-in-Err.refusal
    c.in-Lin.is c.in_ok-kept-in-Lin.ensures c.in-Err.ensures.same c.in-Err.ensures.only c.in_ok-refusal-in-Err.ensures.known c.in_ok-refusal-in-Err.ensures.code

pub returns-in-Can-clause-outcome : goal.returns-in-Can-clause-outcome
returns-in-Can-clause-outcome c = c.refused.ensures c.args.state.now ∙ not_lin c.args.state.now _ c.in-Can.is
