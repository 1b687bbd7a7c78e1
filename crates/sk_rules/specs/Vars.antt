-- The variables of a participant.
use Rattle.std.specs.Prelude.{ℕ, ◌^◌, Bool, ◌&&◌, List, [], ◌∷◌, ◌++◌, length, map, nat_le, nat_lt, Result, Ok}
use Rattle.std.specs.List.{list_all}
use Rattle.serde_json.specs.Data.{Data, Members, no_members, member}
use Rattle.serde_json.specs.Events.{members_len}
use Rattle.serde_json.specs.Find.{as_object}
use Rattle.sk_base.specs.Ranges.{is_name}
use Rattle.sk_config.specs.Paths.{key_at}
use Rattle.sk_config.specs.Json.{whole}
use Rattle.sk_rules.specs.Outcome.{◌>>=◌, ◌>>◌, must, found}
use Rattle.sk_rules.specs.Orders.{are_sorted}
use Rattle.sk_rules.specs.declared.fault.Rule.TheVariants as rules
use Rattle.sk_rules.specs.declared.fault.ScenarioFault.{ScenarioFault}
use Rattle.sk_rules.specs.declared.vars.Var.{Var}

-- a name, and a value of 64 bits
unfoldable pub is_var : Var → Bool
is_var var = is_name var.name && nat_lt var.value (2 ^ 64)

abbrev pub names_of : List Var → List (List ℕ)
names_of vars = map (λ var. var.name) vars

-- at most 64, in the byte order of their names
unfoldable pub are_vars : List Var → Bool
are_vars vars = nat_le (length vars) 64 && (list_all is_var vars && are_sorted (names_of vars))

-- its value: a whole number of 64 bits
abbrev pub value_read : List ℕ → Data → Result ℕ ScenarioFault
value_read path d = do
  value ← found path rules.WrongType (whole d)
  must path rules.OutOfRange (nat_lt value (2 ^ 64))
  Ok value

-- a variable: its key is its name
abbrev pub var_read : List ℕ → List ℕ → Data → Result Var ScenarioFault
var_read path key d = do
  must (key_at path key) rules.BadText (is_name key)
  value ← value_read (key_at path key) d
  Ok (record { name = key; value = value })

-- these, and then what the members say
abbrev pub vars_in : List ℕ → List Var → Members → Result (List Var) ScenarioFault
vars_in path earlier no_members = Ok earlier
vars_in path earlier (member key d ms) = do
  var ← var_read path key d
  vars_in path (earlier ++ var ∷ []) ms

-- the keys of members
abbrev pub keys_in : Members → List (List ℕ)
keys_in no_members = []
keys_in (member key d ms) = key ∷ keys_in ms

-- an object of at most 64 variables, in the byte order of their names
unfoldable pub vars_read : List ℕ → Data → Result (List Var) ScenarioFault
vars_read path d = do
  members ← found path rules.WrongType (as_object d)
  must path rules.OutOfRange (nat_le (members_len members) 64)
  vars_in path [] members
