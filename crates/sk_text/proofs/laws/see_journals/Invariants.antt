use Rattle.std.proofs.Common.{take}
use Rattle.std.specs.Prelude.{All}
use Rattle.sk_text.specs.Kept.{IsEntry}
use Rattle.sk_text.proofs.laws.see_journals.Given as goal

abbrev pub invariant-loop-journal : goal.invariant-loop-journal
invariant-loop-journal l = All (λ journal. All IsEntry journal.items) (take l.journal-index l.journals)
