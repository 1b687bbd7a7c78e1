use Rattle.std.specs.Prelude.{◌≡◌, refl, ◌≤◌, ◌<◌, nat_le, Bool, true, false, not, ◌||◌, ◌==◌, length, slice_index_or}
use Rattle.std.proofs.Common.{ap, sym, ◌∙◌, arith}
use Rattle.std.proofs.lemmas.Bool.Decides.{nat_tests}
use Rattle.sk_law.specs.Readings.{put}
use Rattle.sk_law.specs.Kept.{Kept}
use Rattle.sk_node.proofs.Answering.{waiting}
use Rattle.sk_node.proofs.events.is_out.Goals as goal

pub returns : goal.returns
returns c = waiting c.args.journal.now c.args.number c.waits.result c.waits.ensures.value c.waits.ensures.nobody
