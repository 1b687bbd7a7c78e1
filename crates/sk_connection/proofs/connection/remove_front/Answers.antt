use Rattle.std.proofs.Common.{take, ap, ◌∙◌, arith}
use Rattle.sk_connection.proofs.TalkLaws.{moved}
use Rattle.sk_connection.proofs.connection.remove_front.Goals as goal

pub returns : goal.returns
returns c = c.truncate.ensures.items ∙ ap (take _) c.copy_within.ensures.items ∙ moved c.args.bytes.now.items c.args.count _ _ (omega arith) (omega arith)
