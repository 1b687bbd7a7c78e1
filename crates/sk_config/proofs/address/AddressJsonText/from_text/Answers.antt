use Rattle.std.proofs.Common.{◌≡◌, false, sym, refl, ◌∙◌}
use Rattle.sk_config.specs.Configs.{is_address}
use Rattle.sk_config.proofs.AddressLaws.{no_address}
use Rattle.sk_config.proofs.address.AddressJsonText.from_text.Goals as goal

pub returns-then-not-is_address : goal.returns-then-not-is_address
returns-then-not-is_address c =
    let made = sym c.in-Some.is ∙ rw c.as_bytes.ensures.value at c.in_ok-uri.ensures.reads in
    let wrong : is_address c.args.text.now ≡ false = no_address _ _ made (sym c.if-not-is_address.ensures) in
    rw wrong refl
