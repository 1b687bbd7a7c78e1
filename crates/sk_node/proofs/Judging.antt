-- System, as the code judges it.
use Rattle.std.specs.Prelude.{◌≡◌, Bool, if◌then◌else◌}
use Rattle.std.proofs.Common.{ap, sym, ◌∙◌}
use Rattle.sk_msg.specs.declared.state.State.{State}
use Rattle.sk_msg.specs.States.{is_state}
use Rattle.sk_msg.specs.declared.entry.Entry.TheVariants.{System as Judged}
use Rattle.sk_law.specs.declared.setup.Setup.{Setup}
use Rattle.sk_law.specs.Past.{Past, add}
use Rattle.sk_law.specs.Readings.{system_told}
use Rattle.sk_law.specs.Links.{system}
use Rattle.sk_law.specs.Blocks.{judge_system}

pub judged : (S : Setup) (past : Past) (s t : State) (b c : Bool) → s ≡ system S past → t ≡ system_told past.journal → b ≡ is_state s t → b ≡ c →
    (if c then past else add (Judged s) past) ≡ judge_system S past
unfolding judge_system
judged S past s t b c now last same e =
    ap (λ x. if c then past else add (Judged x) past) now
    ∙ ap (λ x. if x then past else add (Judged (system S past)) past)
    (sym e ∙ same ∙ ap (λ x. is_state x t) now ∙ ap (λ x. is_state (system S past) x) last)
