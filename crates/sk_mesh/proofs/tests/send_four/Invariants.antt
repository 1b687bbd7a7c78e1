use Rattle.std.proofs.Common.{◌≡◌}
use Rattle.sk_mesh.specs.Places.{place}
use Rattle.sk_mesh.proofs.tests.send_four.Given as goal

abbrev pub invariant-loop-number : goal.invariant-loop-number
invariant-loop-number g l = place l.ends ≡ place l.fn.ends
