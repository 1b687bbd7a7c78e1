use Rattle.std.proofs.Common.{◌∙◌}
use Rattle.sk_law.specs.Links.{reached}
use Rattle.sk_node.proofs.LinLaws.{header_sent, header_not}
use Rattle.sk_node.proofs.OtherKinds.{not_lin}
use Rattle.sk_node.proofs.services.lin.lin_header.Goals as goal

pub returns-in_ok-answer-in-Ok : goal.returns-in_ok-answer-in-Ok
returns-in_ok-answer-in-Ok c =
    header_sent (reached c.args.journal.now.setup c.args.journal.now.past) c.args.head c.args.id c.args.state.now c.in-Lin.lin c.in-Ok.frame c.in_ok-answer-in-Ok.answer
    c.in-Lin.is c.in-Ok.ensures.ok c.in-Ok.ensures.accepted c.in_ok-answer-in-Ok.ensures

pub returns-in_ok-refusal-in-Err : goal.returns-in_ok-refusal-in-Err
returns-in_ok-refusal-in-Err c =
    header_not (reached c.args.journal.now.setup c.args.journal.now.past) c.args.head c.args.id c.args.state.now c.in-Lin.lin c.in-Err.reason c.in_ok-refusal-in-Err.refusal
    c.in-Lin.is c.in-Err.ensures.only c.in_ok-refusal-in-Err.ensures.known c.in_ok-refusal-in-Err.ensures.code

pub returns-in-Can : goal.returns-in-Can
returns-in-Can c = c.refused.ensures c.args.state.now ∙ not_lin c.args.state.now _ c.in-Can.is
