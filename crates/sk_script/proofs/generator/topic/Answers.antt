use Rattle.std.proofs.Common.{refl}
use Rattle.sk_msg.specs.Specs.{is_label_count}
use Rattle.sk_script.proofs.generator.topic.Goals as goal

pub with_labels-requires : goal.with_labels-requires
unfolding is_label_count
with_labels-requires c = rw c.new.ensures.items refl
