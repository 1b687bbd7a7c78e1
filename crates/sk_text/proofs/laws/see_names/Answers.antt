use Rattle.std.proofs.Common.{◌≡◌, ℕ, List, take, sym, arith}
use Rattle.std.specs.Prelude.{IsTrue}
use Rattle.std.proofs.lemmas.Grind.{common_steps}
use Rattle.std.proofs.lemmas.List.Elements.{All-more, All-same}
use Rattle.sk_base.specs.Ranges.{is_name}
use Rattle.sk_text.proofs.laws.see_names.Goals as goal

abbrev IsName : List ℕ → Type 0
IsName name = IsTrue (is_name name)

pub loop-name-preserved : goal.loop-name-preserved
loop-name-preserved c =
    All-more IsName c.args.names.now c.loop-name.name-index c.name-item.result (omega arith) c.loop-name.invariant
    (rw (← c.name-item.is) c.as_str-name.ensures.name)

pub returns : goal.returns
returns c =
    let all : take c.loop-name.name-index c.args.names.now ≡ c.args.names.now = grind (arith, common_steps) in
    All-same IsName c.args.names.now (take c.loop-name.name-index c.args.names.now) (sym all) c.loop-name.invariant
