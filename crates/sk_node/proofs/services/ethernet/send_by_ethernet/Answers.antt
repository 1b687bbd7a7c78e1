use Rattle.std.proofs.Common.{◌∙◌, ap, sym}
use Rattle.sk_msg.specs.declared.content.Content.TheVariants as contents
use Rattle.sk_eth.specs.Ethernet.{padded, refusal}
use Rattle.sk_law.specs.declared.memory.ServiceState.TheVariants as states
use Rattle.sk_law.specs.Links.{reached}
use Rattle.sk_law.specs.Outcomes.{sends}
use Rattle.sk_node.proofs.EthLaws.{sent_frame, unsent_is}
use Rattle.sk_node.proofs.services.ethernet.send_by_ethernet.Goals as goal

pub returns-in_ok-answer-in-Ok : goal.returns-in_ok-answer-in-Ok
returns-in_ok-answer-in-Ok c =
    c.in_ok-answer-in-Ok.ensures (states.Ethernet c.args.ethernet.now)
    ∙ ap (λ m. sends (reached c.args.journal.now.setup c.args.journal.now.past) m (states.Ethernet c.args.ethernet.now)) (c.eth-message.ensures ∙ ap (contents.Eth c.args.head) (c.in-Ok.ensures.ok ∙ ap padded c.as_slice.ensures.value))
    ∙ sent_frame (reached c.args.journal.now.setup c.args.journal.now.past) (contents.Eth c.args.head (padded c.args.frame.now)) c.args.ethernet.now c.args.frame.now (ap (refusal c.args.ethernet.now) (sym c.as_slice.ensures.value) ∙ c.in-Ok.ensures.accepted)

pub returns-in_ok-refusal-in-Err : goal.returns-in_ok-refusal-in-Err
returns-in_ok-refusal-in-Err c =
    c.in_ok-refusal-in-Err.ensures.code (states.Ethernet c.args.ethernet.now)
    ∙ unsent_is (reached c.args.journal.now.setup c.args.journal.now.past) (contents.Eth c.args.head (padded c.args.frame.now)) c.args.ethernet.now c.as_slice.result.now c.args.frame.now c.in-Err.reason c.as_slice.ensures.value c.in-Err.ensures.only c.in_ok-refusal-in-Err.ensures.known
