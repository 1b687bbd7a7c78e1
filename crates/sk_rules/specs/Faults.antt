-- How a scenario's reader says what is wrong, and the texts of it.
use Rattle.std.specs.Prelude.{ℕ, List, [], Option, Some, None, codes}
use Rattle.sk_config.specs.Json.{Faults}
use Rattle.sk_rules.specs.declared.fault.Rule.{Rule}
use Rattle.sk_rules.specs.declared.fault.Rule.TheVariants as rules
use Rattle.sk_rules.specs.declared.fault.ScenarioFault.{ScenarioFault}
use Rattle.sk_rules.specs.declared.fault.ScenarioFault.TheVariants.{NotJson, Refused, WantOfMemory}

-- a number and a count out of their range break one rule
abbrev pub scenario_faults : Faults ScenarioFault
scenario_faults = record {
  not_json = NotJson;
  missing = λ path. Refused path rules.Missing;
  wrong_type = λ path. Refused path rules.WrongType;
  bad_text = λ path. Refused path rules.BadText;
  out_of_range = λ path. Refused path rules.OutOfRange;
  no_memory = WantOfMemory;
}

-- the text of a rule
abbrev pub rule_text : Rule → List ℕ
rule_text rules.NotJson = codes "not JSON"
rule_text rules.Missing = codes "missing"
rule_text rules.WrongType = codes "wrong type"
rule_text rules.OutOfRange = codes "out of range"
rule_text rules.UnknownKey = codes "unknown key"
rule_text rules.BadText = codes "bad text"
rule_text rules.BadHex = codes "bad hex"
rule_text rules.NameTaken = codes "name taken"
rule_text rules.NoSuchService = codes "no such service"
rule_text rules.NoSuchVariable = codes "no such variable"
rule_text rules.NotAllowedHere = codes "not allowed here"
rule_text rules.NoSuchParticipant = codes "no such participant"

-- where the fault is; the bytes as a whole have the empty path
abbrev pub fault_path : ScenarioFault → List ℕ
fault_path NotJson = []
fault_path (Refused path rule) = path
fault_path WantOfMemory = []

-- which rule is broken
abbrev pub fault_rule : ScenarioFault → Option Rule
fault_rule NotJson = Some rules.NotJson
fault_rule (Refused path rule) = Some rule
fault_rule WantOfMemory = None
