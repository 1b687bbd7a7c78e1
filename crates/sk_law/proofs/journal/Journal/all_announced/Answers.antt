use Rattle.std.proofs.Common.{◌∙◌}
use Rattle.sk_law.proofs.Readers.{announced_is}
use Rattle.sk_law.proofs.journal.Journal.all_announced.Goals as goal

pub returns : goal.returns
returns c = c.each_peer.ensures ∙ announced_is c.args.self.now.setup c.args.self.now.past c.args.at
