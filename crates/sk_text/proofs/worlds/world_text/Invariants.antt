use Rattle.std.proofs.Common.{◌≡◌, ◌++◌, drop, map}
use Rattle.std.specs.String.{string_bytes}
use Rattle.sk_text.specs.Lines.{head_lines, journals_lines}
use Rattle.sk_text.proofs.worlds.world_text.Given as goal

-- the text so far, and the lines of the journals that are still to come, are all of it
abbrev pub invariant-loop-number : goal.invariant-loop-number
invariant-loop-number l =
    string_bytes l.text ++ journals_lines l.number (map (λ journal. journal.items) (drop l.number l.journals))
    ≡ head_lines l.names ++ journals_lines 0 (map (λ journal. journal.items) l.journals)
