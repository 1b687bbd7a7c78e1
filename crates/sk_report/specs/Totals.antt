-- The numbers of a report's lines.
use Rattle.std.specs.Prelude.{◌≡◌, ℕ, ◌+◌, List, [], ◌∷◌, length, codes, decimal}
use Rattle.std.specs.List.{sum_by, count_by}
use Rattle.sk_law.specs.Script.{Step}
use Rattle.sk_report.specs.Contents.{is_shown}
use Rattle.sk_report.specs.Lines.{line}
use Rattle.sk_report.specs.declared.totals.Totals.{Totals}

-- how many messages are shown that this step sees
abbrev pub seen_in : Step → ℕ
seen_in step = count_by (λ item. is_shown item.message) step.view.seen

-- how many messages are shown that were sent in this step
abbrev pub sent_in_step : Step → ℕ
sent_in_step step = count_by is_shown step.sends

-- of the steps of a participant
abbrev pub seen_of : List Step → ℕ
seen_of steps = sum_by seen_in steps

-- of the steps of a participant
abbrev pub sent_of : List Step → ℕ
sent_of steps = sum_by sent_in_step steps

-- so many steps, seen messages and sent messages
unfoldable pub count_line : ℕ → ℕ → ℕ → List ℕ
count_line steps seen sent =
    line (codes "steps" ∷ decimal steps ∷ codes "saw" ∷ decimal seen ∷ codes "sent" ∷ decimal sent ∷ [])

-- the last line, of the steps of all participants
abbrev pub totals_line : List (List Step) → List ℕ
totals_line all = count_line (sum_by length all) (sum_by seen_of all) (sum_by sent_of all)

-- these steps are counted too
pub record CountSteps (more : List Step) (old new : Totals) : Type 0 where
  pub steps : new.steps ≡ old.steps + length more
  pub seen : new.seen ≡ old.seen + seen_of more
  pub sent : new.sent ≡ old.sent + sent_of more
