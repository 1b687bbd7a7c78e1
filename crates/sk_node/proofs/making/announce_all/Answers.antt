use Rattle.sk_node.proofs.Made.{may_announce}
use Rattle.sk_node.proofs.making.announce_all.Goals as goal

pub announcement-requires : goal.announcement-requires
announcement-requires c = may_announce c.args.services.now c.loop-service.service-index c.service-item.result c.requires.numbered c.service-item.is c.loop-service-test.true c.requires.few
