use Rattle.std.proofs.Common.{◌≡◌, ◌++◌, map, take}
use Rattle.std.specs.List.{flat_map}
use Rattle.std.specs.String.{string_bytes}
use Rattle.sk_law.specs.Script.{delivered}
use Rattle.sk_report.specs.Lines.{saw_line}
use Rattle.sk_report.proofs.lines.append_seen.Given as goal

-- the lines so far
abbrev pub invariant-loop-item : goal.invariant-loop-item
invariant-loop-item l = string_bytes l.text ≡ string_bytes l.initial.text ++ flat_map (saw_line l.names) (map delivered (take l.item-index l.seen))
