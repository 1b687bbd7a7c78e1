use Rattle.std.proofs.Common.{◌∙◌}
use Rattle.sk_law.proofs.Readers.{done_is}
use Rattle.sk_law.proofs.journal.Journal.are_others_done.Goals as goal

pub returns : goal.returns
returns c = c.each_peer.ensures ∙ done_is c.args.self.now.setup c.args.self.now.past
