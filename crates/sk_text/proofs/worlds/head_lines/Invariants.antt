use Rattle.std.proofs.Common.{◌≡◌, ◌++◌, length, drop}
use Rattle.std.specs.String.{string_bytes}
use Rattle.sk_text.specs.Lines.{world_line, participant_lines}
use Rattle.sk_text.proofs.worlds.head_lines.Given as goal

-- the lines so far, and those of the names that are still to come, are all of them
abbrev pub invariant-loop-number : goal.invariant-loop-number
invariant-loop-number l =
    string_bytes l.head ++ participant_lines l.number (drop l.number l.names) ≡ world_line (length l.names) ++ participant_lines 0 l.names
