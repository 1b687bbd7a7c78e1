use Rattle.sk_node.proofs.Receiving.{good_response}
use Rattle.sk_node.proofs.receive.note.Goals as goal

pub note-requires : goal.note-requires
note-requires c = good_response c.in-LinResponse.head c.in-LinResponse.response (rw c.in-LinResponse.is at c.requires)
