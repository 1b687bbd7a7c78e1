use Rattle.sk_system.specs.View.{view_system}
use Rattle.sk_system.proofs.view.SystemView.system.Goals as goal

pub returns-in-Some : goal.returns-in-Some
unfolding view_system
returns-in-Some c =
    rw (← c.self.view_is, c.in-Some.is, ← c.as_slice.ensures.value, ← c.as_slice-in-Some.ensures.value) c.system.ensures
