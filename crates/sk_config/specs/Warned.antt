-- The texts of warnings and faults.
use Rattle.std.specs.Prelude.{ℕ, List, [], ◌++◌, codes, if◌then◌else◌}
use Rattle.sk_config.specs.declared.warning.Warning.{Warning}
use Rattle.sk_config.specs.declared.fault.ConfigFault.{ConfigFault}
use Rattle.sk_config.specs.declared.fault.ConfigFault.TheVariants.{NotJson, Missing, WrongType, BadValue, Double, WantOfMemory}

abbrev pub warning_rule : Warning → List ℕ
warning_rule warning = if warning.unused then codes "not used" else codes "no such service"

-- `warning: PATH: TEXT`
abbrev pub warning_text : Warning → List ℕ
warning_text warning = codes "warning: " ++ warning.path ++ codes ": " ++ warning_rule warning

-- where the fault is; the bytes as a whole have the empty path
abbrev pub fault_path : ConfigFault → List ℕ
fault_path NotJson = []
fault_path (Missing path) = path
fault_path (WrongType path) = path
fault_path (BadValue path) = path
fault_path (Double path) = path
fault_path WantOfMemory = []

abbrev pub fault_rule : ConfigFault → List ℕ
fault_rule NotJson = codes "not JSON"
fault_rule (Missing path) = codes "missing"
fault_rule (WrongType path) = codes "wrong type"
fault_rule (BadValue path) = codes "bad value"
fault_rule (Double path) = codes "double"
fault_rule WantOfMemory = codes "out of memory"
