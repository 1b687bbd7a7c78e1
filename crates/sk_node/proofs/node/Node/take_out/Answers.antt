use Rattle.std.specs.Prelude.{List, ℕ, ◌+◌, slice_index_or, slice_set}
use Rattle.sk_law.specs.Kept.{Kept}
use Rattle.sk_node.proofs.Serving.{same_past, sound_out}
use Rattle.sk_node.proofs.node.Node.take_out.Goals as goal

pub invariant_of-self : goal.invariant_of-self
invariant_of-self c =
    let k : Kept = c.self.inside.journal in
    let new : Kept = c.take_out-message.new.self in
    let out : List ℕ = slice_set k.out c.args.peer (slice_index_or k.out c.args.peer 0 + 1) in
    sound_out k new c.self.inside.poisoned (same_past c.take_out-message.result k new out c.take_out-message.ensures.taken c.take_out-message.ensures.none) c.self.invariant c.sound.ensures.all c.sound.ensures.within
