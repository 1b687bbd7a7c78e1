use Rattle.std.proofs.Common.{ℕ, List, subst}
use Rattle.sk_wire.specs.Stream.{AreBytes}
use Rattle.sk_text.proofs.laws.see_bytes.Goals as goal

pub returns : goal.returns
returns c = subst (λ (bytes : List ℕ). AreBytes bytes) c.as_slice.ensures.value c.see_slice.ensures
