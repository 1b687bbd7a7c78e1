use Rattle.std.proofs.Common.{drop}
use Rattle.serde_json.specs.View.{items_view}
use Rattle.sk_config.proofs.ReadLaws.{IsReadTo}
use Rattle.sk_config.proofs.read.read_entries.Given as goal

abbrev pub invariant-loop-index : goal.invariant-loop-index
invariant-loop-index l =
    IsReadTo l.kind l.at l.fn.unused.items (items_view l.items) l.entries.items l.unused.items l.index (items_view (drop l.index l.items))
