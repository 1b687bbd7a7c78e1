use Rattle.sk_system.proofs.NameLaws.{system_state-map, all_required_reached-map}
use Rattle.sk_system.proofs.laws.numbers_stand_for_names.Goals as goal

pub returns : goal.returns
returns c = record { system = system_state-map; reached = all_required_reached-map }
