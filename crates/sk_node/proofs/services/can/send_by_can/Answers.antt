use Rattle.std.proofs.Common.{◌∙◌, ap}
use Rattle.sk_msg.specs.declared.content.Content.TheVariants as contents
use Rattle.sk_law.specs.declared.memory.ServiceState.TheVariants as states
use Rattle.sk_law.specs.Links.{reached}
use Rattle.sk_law.specs.Outcomes.{refused, sends}
use Rattle.sk_node.proofs.CanLaws.{sent_frame, unsent}
use Rattle.sk_node.proofs.services.can.send_by_can.Goals as goal

pub returns-in_ok-answer-in-Ok : goal.returns-in_ok-answer-in-Ok
returns-in_ok-answer-in-Ok c =
    c.in_ok-answer-in-Ok.ensures (states.Can c.args.can.now)
    ∙ ap (λ m. sends (reached c.args.journal.now.setup c.args.journal.now.past) m (states.Can c.args.can.now)) (c.can-message.ensures ∙ ap (contents.Can c.args.head) c.in_ok-told-in-Ok.ensures)
    ∙ sent_frame (reached c.args.journal.now.setup c.args.journal.now.past) (contents.Can c.args.head c.args.frame.now) c.args.can.now c.args.frame.now c.in-Ok.field-0 c.send.result c.in-Ok.is c.send.ensures.exactly

pub returns-in-Err : goal.returns-in-Err
returns-in-Err c =
    c.refused.ensures (states.Can c.args.can.now)
    ∙ ap (λ n. refused n (states.Can c.args.can.now)) c.can_code.ensures
    ∙ unsent (reached c.args.journal.now.setup c.args.journal.now.past) (contents.Can c.args.head c.args.frame.now) c.args.can.now c.args.frame.now c.in-Err.reason c.send.result c.in-Err.is c.send.ensures.answer c.send.ensures.exactly
