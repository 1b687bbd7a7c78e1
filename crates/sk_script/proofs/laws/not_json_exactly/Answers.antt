use Rattle.sk_script.proofs.FaultLaws.{not_json_where, never_memory}
use Rattle.sk_script.proofs.laws.not_json_exactly.Goals as goal

pub returns : goal.returns
returns c = record { no_json = not_json_where; no_memory = never_memory }
