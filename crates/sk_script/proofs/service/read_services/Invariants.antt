use Rattle.std.proofs.Common.{◌≡◌, [], drop, length}
use Rattle.serde_json.specs.View.{items_view}
use Rattle.sk_rules.specs.Fields.{items_read}
use Rattle.sk_script.specs.Services.{service_read}
use Rattle.sk_script.proofs.service.read_services.Given as goal

abbrev pub invariant-loop-index : goal.invariant-loop-index
invariant-loop-index l =
    (length l.services.items ≡ l.index)
    × (items_read service_read l.at l.services.items l.index (items_view (drop l.index l.items)) ≡ items_read service_read l.at [] 0 (items_view l.items))
