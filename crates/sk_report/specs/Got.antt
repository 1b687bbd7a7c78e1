-- Messages by the number of a peer.
use Rattle.std.specs.Prelude.{ℕ, List, map, unwrap_or, slice_get}
use Rattle.sk_msg.specs.declared.content.Content.{Content}
use Rattle.sk_report.specs.Groups.{messages_of, messages_at}
use Rattle.sk_report.specs.declared.got.GotMessages.{GotMessages}

-- those of the first numbers
abbrev pub firsts : GotMessages → List (List Content)
firsts got = map (λ group. messages_of group.items) got.first.items

-- those of this number
abbrev pub got_at : GotMessages → ℕ → List Content
got_at got peer = unwrap_or (slice_get (firsts got) peer) (messages_at got.others peer)
