use Rattle.sk_report.specs.Groups.{messages_of, messages_at}
use Rattle.sk_report.proofs.Getting.{nothing_of}
use Rattle.sk_report.proofs.got.GotMessages.new.Goals as goal

pub returns : goal.returns
returns c = nothing_of _ (messages_at c.new.result) c.in_ok-nothing.ensures c.new.ensures
