-- What the monitor keeps.
use Rattle.std.proofs.Common.{◌≡◌, ℕ, List, [], Some, None, refl, inl, inr}
use Rattle.sk_msg.specs.declared.content.Content.{Content}
use Rattle.sk_msg.specs.declared.content.Content.TheVariants.{Leave, Status, Workflow}
use Rattle.sk_msg.specs.declared.state.State.{State}
use Rattle.sk_system.specs.Monitor.{Monitor, with_printed, requiring, monitor_after, own_lines, monitor_lines}
use Rattle.sk_system.specs.Notice.{Nothing, notice_of}
use Rattle.sk_system.proofs.LineLaws.{system_lines-same}
use Rattle.sk_system.proofs.NoticeLaws.{other_kinds}

-- the first Workflow counts
pub requiring-first : (monitor : Monitor) (names : List (List ℕ)) → monitor.required ≡ None → requiring monitor monitor.required names ≡ with_printed (record monitor { required = Some names })
requiring-first monitor names none = rw none refl

nothing : (monitor : Monitor) (name : List ℕ) → (monitor_lines monitor name Nothing ≡ []) × (monitor_after monitor name Nothing ≡ monitor)
unfolding monitor_after own_lines
nothing monitor name = (system_lines-same monitor.printed, refl)

-- kinds other than Status, Leave and Workflow change nothing
pub passed_over : (monitor : Monitor) (name : List ℕ) (content : Content)
    → (content ≡ Leave → ⊥) → ((state : State) (until : ℕ) → content ≡ Status state until → ⊥) → ((names : List (List ℕ)) → content ≡ Workflow names → ⊥)
    → (monitor_lines monitor name (notice_of content) ≡ []) × (monitor_after monitor name (notice_of content) ≡ monitor)
passed_over monitor name content a b c = elim (other_kinds content a b) [
  | inl none ↦ rw none (nothing monitor name)
  | inr (names, is) ↦ absurd (c names is)
]
