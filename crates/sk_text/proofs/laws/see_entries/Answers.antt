use Rattle.std.proofs.Common.{◌≡◌, take, sym, arith}
use Rattle.std.proofs.lemmas.Grind.{common_steps}
use Rattle.std.proofs.lemmas.List.Elements.{All-more, All-same}
use Rattle.sk_text.specs.Kept.{IsEntry}
use Rattle.sk_text.proofs.laws.see_entries.Goals as goal

pub loop-entry-preserved : goal.loop-entry-preserved
loop-entry-preserved c =
    All-more IsEntry c.args.entries.now c.loop-entry.entry-index c.entry-item.result (omega arith) c.loop-entry.invariant
    (rw (← c.entry-item.is) c.see_entry.ensures)

pub returns : goal.returns
returns c =
    let all : take c.loop-entry.entry-index c.args.entries.now ≡ c.args.entries.now = grind (arith, common_steps) in
    All-same IsEntry c.args.entries.now (take c.loop-entry.entry-index c.args.entries.now) (sym all) c.loop-entry.invariant
