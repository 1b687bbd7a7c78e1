use Rattle.std.proofs.Common.{◌≡◌, ◌∙◌, length, false, sym}
use Rattle.std.specs.Prelude.{◌==◌}
use Rattle.std.proofs.lemmas.Bool.{true≢false, eq-eqb}
use Rattle.serde_json.proofs.Views.{view-Array}
use Rattle.sk_script_text.specs.Objects.{put_some}
use Rattle.sk_script_text.proofs.WriteLaws.{some_list}
use Rattle.sk_script_text.proofs.object.Object.put_list.Goals as goal

pub returns : goal.returns
unfolding put_some
returns c =
    let many : (length c.args.values.items == 0) ≡ false = rw c.as_slice.ensures.value at (sym c.is_empty.ensures ∙ c.if-is_empty.false) in
    rw (some_list c.args.values.items (λ none. true≢false (sym (eq-eqb _ _ none) ∙ many)), ← view-Array c.args.values) c.put.ensures
