use Rattle.std.proofs.Common.{refl, arith}
use Rattle.std.specs.String.{string_bytes}
use Rattle.std.proofs.lemmas.Str.{IsUtf8-string_bytes, encode_ascii}
use Rattle.sk_script_text.specs.Written.{canonical}
use Rattle.sk_script_text.proofs.PlainLaws.{plain_scenario}
use Rattle.sk_script_text.proofs.ScenarioLaws.{bytes_back}
use Rattle.sk_script_text.proofs.write_scenario.scenario_text.Goals as goal

pub returns : goal.returns
unfolding canonical
returns c =
    let s = c.args.scenario.now in
    let plain = plain_scenario s in
    let text = rw c.in_ok-value.ensures.value at c.in_ok-text.ensures.text in
    let back = rw c.in_ok-value.ensures.value at c.in_ok-text.ensures.reads_back in
    record {
      text = rw (c.in_ok-push.ensures.bytes, encode_ascii 10 (omega arith), text plain.1) refl;
      reads_back = rw (c.in_ok-push.ensures.bytes, encode_ascii 10 (omega arith)) (bytes_back s (string_bytes c.in_ok-text.text) c.in_ok-value.ensures.rules c.in_ok-value.ensures.fits (IsUtf8-string_bytes c.in_ok-text.text) (back plain.0));
    }
