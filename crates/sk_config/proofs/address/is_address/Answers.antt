use Rattle.std.proofs.Common.{◌≡◌, true, sym, ap, ◌∙◌}
use Rattle.sk_base.specs.Ranges.{is_text}
use Rattle.sk_config.specs.Configs.{is_address}
use Rattle.sk_config.proofs.AddressLaws.{with_scheme, without_scheme}
use Rattle.sk_config.proofs.address.is_address.Goals as goal

pub returns-in-Some : goal.returns-in-Some
returns-in-Some c =
    let said = c.as_str.ensures.value in
    let text : is_text c.as_str.result.now ≡ true = rw said c.as_str.ensures.text in
    c.is_host_and_port.ensures ∙ sym (with_scheme _ _ text c.in-Some.ensures.cases) ∙ ap is_address said

pub returns-in-None : goal.returns-in-None
returns-in-None c = sym (without_scheme _ c.in-None.ensures.cases) ∙ ap is_address c.as_str.ensures.value
