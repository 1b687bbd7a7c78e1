use Rattle.std.proofs.Common.{◌≡◌, ◌++◌, take}
use Rattle.std.specs.List.{flat_map}
use Rattle.std.specs.String.{string_bytes}
use Rattle.sk_report.specs.Groups.{messages_of}
use Rattle.sk_report.specs.Lines.{sent_line}
use Rattle.sk_report.proofs.lines.append_sent.Given as goal

-- the lines so far
abbrev pub invariant-loop-message : goal.invariant-loop-message
invariant-loop-message l = string_bytes l.text ≡ string_bytes l.initial.text ++ flat_map (sent_line l.names) (messages_of (take l.message-index l.sent))
