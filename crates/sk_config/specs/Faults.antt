-- How a configuration's reader says what is wrong.
use Rattle.sk_config.specs.Json.{Faults}
use Rattle.sk_config.specs.declared.fault.ConfigFault.{ConfigFault}
use Rattle.sk_config.specs.declared.fault.ConfigFault.TheVariants.{NotJson, Missing, WrongType, BadValue, WantOfMemory}

-- a text that isn't of its kind, and a number or a count out of its range, are bad values
abbrev pub config_faults : Faults ConfigFault
config_faults = record {
  not_json = NotJson;
  missing = Missing;
  wrong_type = WrongType;
  bad_text = BadValue;
  out_of_range = BadValue;
  no_memory = WantOfMemory;
}
