use Rattle.std.proofs.Common.{take}
use Rattle.std.specs.Prelude.{All}
use Rattle.sk_msg.specs.Rules.{IsNamed}
use Rattle.sk_msg.proofs.message.see_labels.Given as goal

abbrev pub invariant-loop-label : goal.invariant-loop-label
invariant-loop-label l = All IsNamed (take l.label-index l.labels)
