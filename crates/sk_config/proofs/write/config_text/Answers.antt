use Rattle.std.proofs.Common.{◌≡◌, ◌≤◌, false, Some, ap, ◌∙◌}
use Rattle.std.proofs.lemmas.Str.{IsUtf8-string_bytes}
use Rattle.serde_json.specs.Data.{depth}
use Rattle.serde_json.specs.Read.{max_depth}
use Rattle.serde_json.specs.View.{view}
use Rattle.serde_json.specs.Written.{has_float, compact_text}
use Rattle.sk_config.specs.Written.{canonical}
use Rattle.sk_config.proofs.BackLaws.{plain_config, bytes_back}
use Rattle.sk_config.proofs.write.config_text.Goals as goal

pub returns-clause-text : goal.returns-clause-text
unfolding canonical
returns-clause-text c =
    let value = c.in_ok-value.ensures.value in
    let whole : has_float (view c.in_ok-value.value) ≡ false = rw value (plain_config _).1 in
    c.in_ok-to_string.ensures.text whole ∙ ap compact_text value

pub returns-clause-reads_back : goal.returns-clause-reads_back
returns-clause-reads_back c =
    let value = c.in_ok-value.ensures.value in
    let shallow : depth (view c.in_ok-value.value) ≤ max_depth = rw value (plain_config _).0 in
    bytes_back _ _ c.in_ok-value.ensures.rules (IsUtf8-string_bytes c.in_ok-to_string.field-0) (c.in_ok-to_string.ensures.reads_back shallow ∙ ap Some value)
