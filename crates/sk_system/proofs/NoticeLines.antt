-- What the tools print of further notices stands behind what they printed.
use Rattle.std.proofs.Common.{◌≡◌, ℕ, List, [], ◌∷◌, ◌++◌, refl, sym, ap, ◌∙◌, append_assoc, append-nil}
use Rattle.sk_system.specs.Monitor.{Monitor, monitor_after, monitor_lines}
use Rattle.sk_system.specs.Controller.{Controller, controller_after, controller_lines}
use Rattle.sk_system.specs.History.{NamedNotice, monitor_after_all, monitor_lines_all, controller_after_all, controller_lines_all}

pub monitor_kept : (monitor : Monitor) (notices more : List NamedNotice) → monitor_after_all monitor (notices ++ more) ≡ monitor_after_all (monitor_after_all monitor notices) more
monitor_kept monitor [] more = refl
monitor_kept monitor (named ∷ notices) more = monitor_kept (monitor_after monitor named.name named.notice) notices more

pub monitor_more : (monitor : Monitor) (notices more : List NamedNotice)
    → monitor_lines_all monitor (notices ++ more) ≡ monitor_lines_all monitor notices ++ monitor_lines_all (monitor_after_all monitor notices) more
monitor_more monitor [] more = refl
monitor_more monitor (named ∷ notices) more =
    let here : List (List ℕ) = monitor_lines monitor named.name named.notice in
    let after : Monitor = monitor_after monitor named.name named.notice in
    ap (λ (lines : List (List ℕ)). here ++ lines) (monitor_more after notices more)
    ∙ sym (append_assoc here (monitor_lines_all after notices) (monitor_lines_all (monitor_after_all after notices) more))

pub monitor_next : (monitor : Monitor) (notices : List NamedNotice) (next : NamedNotice)
    → monitor_lines_all monitor (notices ++ next ∷ []) ≡ monitor_lines_all monitor notices ++ monitor_lines (monitor_after_all monitor notices) next.name next.notice
monitor_next monitor notices next =
    monitor_more monitor notices (next ∷ [])
    ∙ ap (λ (lines : List (List ℕ)). monitor_lines_all monitor notices ++ lines) (append-nil (monitor_lines (monitor_after_all monitor notices) next.name next.notice))

pub controller_kept : (controller : Controller) (notices more : List NamedNotice)
    → controller_after_all controller (notices ++ more) ≡ controller_after_all (controller_after_all controller notices) more
controller_kept controller [] more = refl
controller_kept controller (named ∷ notices) more = controller_kept (controller_after controller named.name named.notice) notices more

pub controller_more : (controller : Controller) (notices more : List NamedNotice)
    → controller_lines_all controller (notices ++ more) ≡ controller_lines_all controller notices ++ controller_lines_all (controller_after_all controller notices) more
controller_more controller [] more = refl
controller_more controller (named ∷ notices) more =
    let here : List (List ℕ) = controller_lines controller named.name named.notice in
    let after : Controller = controller_after controller named.name named.notice in
    ap (λ (lines : List (List ℕ)). here ++ lines) (controller_more after notices more)
    ∙ sym (append_assoc here (controller_lines_all after notices) (controller_lines_all (controller_after_all after notices) more))

pub controller_next : (controller : Controller) (notices : List NamedNotice) (next : NamedNotice)
    → controller_lines_all controller (notices ++ next ∷ []) ≡ controller_lines_all controller notices ++ controller_lines (controller_after_all controller notices) next.name next.notice
controller_next controller notices next =
    controller_more controller notices (next ∷ [])
    ∙ ap (λ (lines : List (List ℕ)). controller_lines_all controller notices ++ lines) (append-nil (controller_lines (controller_after_all controller notices) next.name next.notice))
