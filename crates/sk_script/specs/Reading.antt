-- What the bytes of a scenario read as: the scenario with its warnings, or the first fault in the order in which a file is
-- checked.
use Rattle.std.specs.Prelude.{ℕ, ◌+◌, ◌^◌, not, List, [], ◌∷◌, ◌++◌, map, Option, Some, None, Result, Ok, Err, ⊤}
use Rattle.std.specs.List.{flat_map}
use Rattle.serde_json.specs.Data.{Data, Items}
use Rattle.serde_json.specs.Find.{as_str}
use Rattle.sk_base.specs.Ranges.{is_name}
use Rattle.sk_msg.specs.Rules.{is_new_name}
use Rattle.sk_config.specs.Json.{json_of}
use Rattle.sk_config.specs.Paths.{key_at, index_at}
use Rattle.sk_rules.specs.Fields.{object_read, needed, needed_number, list_read, items_read}
use Rattle.sk_rules.specs.Outcome.{◌>>=◌, ◌>>◌, must, found}
use Rattle.sk_rules.specs.declared.fault.Rule.TheVariants as rules
use Rattle.sk_rules.specs.declared.fault.ScenarioFault.{ScenarioFault}
use Rattle.sk_rules.specs.declared.fault.ScenarioFault.TheVariants.{NotJson}
use Rattle.sk_script.specs.Keys.{knows, duration_key, required_key, participants_key, name_key}
use Rattle.sk_script.specs.Parts.{part_read}
use Rattle.sk_script.specs.Placing.{in_order}
use Rattle.sk_script.specs.Scenarios.{PartValue, PartReadValue, ScenarioReadValue, has_name, is_coordinated_in, coordinated_names}
use Rattle.sk_script.specs.declared.keys.Object.TheVariants.{Root}

-- ---- required names

-- a name behind these, none of which it is
abbrev pub required_name_read : List ℕ → List (List ℕ) → Data → Result (List ℕ) ScenarioFault
required_name_read path earlier d = do
  name ← found path rules.WrongType (as_str d)
  must path rules.BadText (is_name name)
  must path rules.NameTaken (is_new_name earlier name)
  Ok name

abbrev pub names_in : List ℕ → Option Items → Result (Option (List (List ℕ))) ScenarioFault
names_in path None = Ok None
names_in path (Some ds) = do
  names ← items_read required_name_read path [] 0 ds
  Ok (Some names)

-- 1 to 32 names, where the file has them
unfoldable pub required_read : List ℕ → Data → Result (Option (List (List ℕ))) ScenarioFault
required_read path d = do
  given ← list_read 1 32 path required_key d
  names_in (key_at path required_key) given

-- ---- participants

-- 1 to 32 participants
unfoldable pub participants_read : List ℕ → Data → Result (List PartReadValue) ScenarioFault
participants_read path d = do
  given ← list_read 1 32 path participants_key d
  items ← needed path participants_key given
  items_read (λ at earlier v. part_read at v) (key_at path participants_key) [] 0 items

-- none of these, the first of which has this index, has the name of one before it
abbrev pub names_differ : List ℕ → List PartReadValue → ℕ → List PartReadValue → Result ⊤ ScenarioFault
names_differ path earlier index [] = Ok tt
names_differ path earlier index (one ∷ reads) = do
  must (key_at (index_at path index) name_key) rules.NameTaken (not (has_name earlier one.part.name))
  names_differ path (earlier ++ one ∷ []) (index + 1) reads

-- each of these names, the first of which has this index, is that of a coordinated participant
abbrev pub all_coordinated : List ℕ → List PartValue → ℕ → List (List ℕ) → Result ⊤ ScenarioFault
all_coordinated path parts index [] = Ok tt
all_coordinated path parts index (name ∷ names) = do
  must (index_at path index) rules.NoSuchParticipant (is_coordinated_in parts name)
  all_coordinated path parts (index + 1) names

-- the required names: those that are given, or else those of all that are coordinated
abbrev pub required_of : List ℕ → List PartValue → Option (List (List ℕ)) → Result (List (List ℕ)) ScenarioFault
required_of path parts None = Ok (coordinated_names parts)
required_of path parts (Some names) = do
  all_coordinated path parts 0 names
  Ok names

abbrev pub parts_of : List PartReadValue → List PartValue
parts_of reads = map (λ read. read.part) reads

abbrev pub uris_of : List PartReadValue → List (Option (List ℕ))
uris_of reads = map (λ read. read.uri) reads

-- ---- the whole

-- the warnings stand in the order in which the file has the participants
unfoldable pub scenario_read : List ℕ → Data → Result ScenarioReadValue ScenarioFault
scenario_read path d = do
  object_read (knows Root) path d
  duration ← needed_number 0 (2 ^ 61) path duration_key d
  given ← required_read path d
  reads ← participants_read path d
  names_differ (key_at path participants_key) [] 0 reads
  required ← required_of (key_at path required_key) (parts_of (in_order reads)) given
  Ok (record {
    scenario = record { duration = duration; required = required; participants = parts_of (in_order reads) };
    uris = uris_of (in_order reads);
    warnings = flat_map (λ read. read.warnings) reads;
  })

-- the value that bytes are, if they are one
abbrev pub reading_from : Option Data → Result ScenarioReadValue ScenarioFault
reading_from None = Err NotJson
reading_from (Some d) = scenario_read [] d

-- the bytes of a file
unfoldable pub reading : List ℕ → Result ScenarioReadValue ScenarioFault
reading bytes = reading_from (json_of bytes)
