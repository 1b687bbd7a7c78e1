use Rattle.std.proofs.Common.{◌≡◌, None, List, take}
use Rattle.sk_msg.specs.declared.content.Content.{Content}
use Rattle.sk_pipe.specs.Hearing.{Hears, IsHeardAs, KeepsPlan}
use Rattle.sk_pipe.proofs.peer.Peer.hear.Given as goal

abbrev pub invariant-loop-message : goal.invariant-loop-message
invariant-loop-message l = record {
  open_still : l.self.ending ≡ None;
  plan : KeepsPlan l.initial.self l.self;
  so_far : (before : List Content) → Hears before None l.initial.self → IsHeardAs before (take l.message-index l.found) l.self;
}
