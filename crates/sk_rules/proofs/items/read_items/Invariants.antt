use Rattle.std.proofs.Common.{◌≡◌, [], drop}
use Rattle.serde_json.specs.View.{items_view}
use Rattle.sk_rules.specs.Fields.{items_read}
use Rattle.sk_rules.proofs.items.read_items.Given as goal

abbrev pub invariant-loop-index : goal.invariant-loop-index
invariant-loop-index g l =
    items_read (g.R.ReadItem.meaning l.reader) l.at l.read.items l.index (items_view (drop l.index l.items))
    ≡ items_read (g.R.ReadItem.meaning l.reader) l.at [] 0 (items_view l.items)
