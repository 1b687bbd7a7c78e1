use Rattle.std.proofs.Common.{◌≡◌, ◌++◌, map, drop}
use Rattle.serde_json.specs.View.{view}
use Rattle.sk_script_text.specs.Services.{service_data}
use Rattle.sk_script_text.proofs.write_service.service_values.Given as goal

abbrev pub invariant-loop-service : goal.invariant-loop-service
invariant-loop-service l =
    map view l.values.items ++ map service_data (drop l.service-index l.services) ≡ map service_data l.services
