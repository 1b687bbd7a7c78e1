use Rattle.std.specs.Prelude.{All}
use Rattle.std.proofs.lemmas.List.Elements.{All-map}
use Rattle.sk_text.specs.Kept.{IsEntry}
use Rattle.sk_text.proofs.laws.see_world.Goals as goal

pub returns : goal.returns
returns c = record { named = c.see_names.ensures; kept = All-map (All IsEntry) (λ journal. journal.items) c.args.journals.now c.see_journals.ensures }
