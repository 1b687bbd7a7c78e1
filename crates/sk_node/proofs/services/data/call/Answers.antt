use Rattle.std.proofs.Common.{◌<◌, ◌^◌, ◌∙◌, sym, subst}
use Rattle.sk_law.specs.Counted.{calls_made}
use Rattle.sk_law.specs.Links.{reached}
use Rattle.sk_law.specs.Outcomes.{has_server}
use Rattle.sk_node.proofs.DataLaws.{next_is, call_sent, call_not}
use Rattle.sk_node.proofs.OtherKinds.{not_client}
use Rattle.sk_node.proofs.services.data.call.Goals as goal

pub returns-then-not-found-clause-outcome : goal.returns-then-not-found-clause-outcome
returns-then-not-found-clause-outcome c =
    call_not (has_server c.args.journal.now.setup c.args.journal.now.past c.args.own.now) (reached c.args.journal.now.setup c.args.journal.now.past) c.args.head c.args.payload.now c.args.state.now c.in-Client.client c.refused.result c.in-Client.is (sym (c.has_server-found.ensures c.args.own.now c.requires.own) ∙ c.if-not-found.true) c.refused.ensures

pub call-message-requires-clause-call : goal.call-message-requires-clause-call
call-message-requires-clause-call c =
    next_is c.in-Client.client c.in-Ok.number (subst (λ s. calls_made s < 2 ^ 63) c.in-Client.is c.requires.few) c.in-Ok.ensures.number

pub returns-in_ok-answer-in-Ok-clause-outcome : goal.returns-in_ok-answer-in-Ok-clause-outcome
returns-in_ok-answer-in-Ok-clause-outcome c =
    call_sent (has_server c.args.journal.now.setup c.args.journal.now.past c.args.own.now) (reached c.args.journal.now.setup c.args.journal.now.past) c.args.head c.in_ok-told-in-Ok.told c.args.payload.now c.call-message.result c.args.state.now c.in-Client.client c.call.new.self c.in-Ok.number c.in_ok-answer-in-Ok.answer
    c.in-Client.is (sym (c.has_server-found.ensures c.args.own.now c.requires.own) ∙ c.if-not-found.false) c.in_ok-told-in-Ok.ensures c.call-message.ensures c.in-Ok.ensures.number c.in-Ok.ensures.made c.in_ok-answer-in-Ok.ensures

pub returns-in-Can-clause-outcome : goal.returns-in-Can-clause-outcome
returns-in-Can-clause-outcome c = c.refused-in-Can.ensures c.args.state.now ∙ not_client c.args.state.now _ c.in-Can.is
