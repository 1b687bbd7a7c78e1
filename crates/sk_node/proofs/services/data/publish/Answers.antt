use Rattle.std.proofs.Common.{◌∙◌}
use Rattle.sk_law.specs.Links.{reached}
use Rattle.sk_node.proofs.DataLaws.{publish_sent}
use Rattle.sk_node.proofs.OtherKinds.{not_publisher}
use Rattle.sk_node.proofs.services.data.publish.Goals as goal

pub returns-in_ok-answer-in-Publisher-clause-outcome : goal.returns-in_ok-answer-in-Publisher-clause-outcome
returns-in_ok-answer-in-Publisher-clause-outcome c =
    publish_sent (reached c.args.journal.now.setup c.args.journal.now.past) c.args.head c.in_ok-last-in-Publisher.last c.in_ok-told-in-Publisher.told c.args.payload.now c.publish-message.result c.args.state.now c.in-Publisher.publisher c.publish.new.self c.in_ok-answer-in-Publisher.answer
    c.in-Publisher.is c.in_ok-last-in-Publisher.ensures c.in_ok-told-in-Publisher.ensures c.publish-message.ensures c.publish.ensures c.in_ok-answer-in-Publisher.ensures

pub returns-in-Can-clause-outcome : goal.returns-in-Can-clause-outcome
returns-in-Can-clause-outcome c = c.refused.ensures c.args.state.now ∙ not_publisher c.args.state.now _ c.in-Can.is
