use Rattle.std.proofs.Common.{arith, refl}
use Rattle.serde_json.proofs.Views.{items_len-items_view}
use Rattle.sk_script.specs.Parts.{services_read}
use Rattle.sk_script.specs.Services.{services_in}
use Rattle.sk_script.proofs.FieldLaws.{list_within}
use Rattle.sk_script.proofs.part.read_own_services.Goals as goal

pub returns-in_default : goal.returns-in_default
unfolding services_read services_in
returns-in_default c = rw (c.in_ok-items.ensures, c.in_default.is, c.new.ensures.items) refl

pub read_services-requires : goal.read_services-requires
read_services-requires c =
    let range = list_within _ _ _ _ _ _ (rw c.in-Some.is at c.in_ok-items.ensures) in
    record { few = omega (arith, range.1, items_len-items_view c.in-Some.items.now) }
