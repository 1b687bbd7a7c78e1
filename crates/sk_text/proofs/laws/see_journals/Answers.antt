use Rattle.std.proofs.Common.{◌≡◌, take, sym, arith, Vec, Global}
use Rattle.std.specs.Prelude.{All}
use Rattle.std.proofs.lemmas.Grind.{common_steps}
use Rattle.std.proofs.lemmas.List.Elements.{All-more, All-same}
use Rattle.sk_msg.specs.declared.entry.Entry.{Entry}
use Rattle.sk_text.specs.Kept.{IsEntry}
use Rattle.sk_text.proofs.laws.see_journals.Goals as goal

abbrev AreEntries : Vec Entry Global → Type 0
AreEntries journal = All IsEntry journal.items

pub loop-journal-preserved : goal.loop-journal-preserved
loop-journal-preserved c =
    let same = sym c.as_slice.ensures.value in
    let kept : AreEntries c.journal-item.result = All-same IsEntry c.journal-item.result.items c.as_slice.result.now same c.see_entries.ensures in
    All-more AreEntries c.args.journals.now c.loop-journal.journal-index c.journal-item.result (omega arith) c.loop-journal.invariant
    (rw (← c.journal-item.is) kept)

pub returns : goal.returns
returns c =
    let all : take c.loop-journal.journal-index c.args.journals.now ≡ c.args.journals.now = grind (arith, common_steps) in
    All-same AreEntries c.args.journals.now (take c.loop-journal.journal-index c.args.journals.now) (sym all) c.loop-journal.invariant
