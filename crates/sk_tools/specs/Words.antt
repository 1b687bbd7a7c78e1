-- What the words of each command read as: clap's reading of one simple command, whose first word is the command's own,
-- and then the program's own ranges.
use Rattle.std.specs.Prelude.{ℕ, ◌^◌, ◌==◌, Bool, true, false, ◌&&◌, nat_lt, nat_le, Option, Some, None, option_map, option_and_then, List, [], ◌∷◌, length, codes, if◌then◌else◌}
use Rattle.std.specs.List.{list_all}
use Rattle.std.specs.Str.{bytes_eq}
use Rattle.std.specs.Char.{is_ascii_digit}
use Rattle.std.specs.Str.Parse.{digits_value}
use Rattle.clap.specs.Words.{App, Row, Rule, Text, new_app, new_rule, with_rule, matches_of, first_of, fault_of}
use Rattle.clap.specs.declared.builder.action.ArgAction.TheVariants.{Set, SetTrue}
use Rattle.sk_base.specs.Ranges.{is_name}

-- ## By clap

-- a word that has to be given
abbrev pub needed : Text → Rule
needed id = record (new_rule id) { required = true; action = Some Set }

-- a word that may be given: two hyphens and its name
abbrev pub flag : Text → Rule
flag id = record (new_rule id) { long = Some id; action = Some SetTrue }

unfoldable pub pipe_app : App
pipe_app = with_rule (with_rule (with_rule (new_app (codes "pipe"))
    (needed (codes "NAME"))) (needed (codes "STEP"))) (needed (codes "DURATION"))

unfoldable pub check_app : App
check_app = with_rule (new_app (codes "check")) (needed (codes "FILE"))

unfoldable pub simulate_app : App
simulate_app = with_rule (with_rule (new_app (codes "simulate"))
    (needed (codes "FILE"))) (flag (codes "report"))

unfoldable pub generate_app : App
generate_app = with_rule (with_rule (with_rule (with_rule (new_app (codes "generate"))
    (needed (codes "NUMBER"))) (needed (codes "PARTICIPANTS"))) (needed (codes "STEPS"))) (flag (codes "run"))

-- the command takes the words
unfoldable pub takes_words : App → List Text → Bool
takes_words app words = length (fault_of app words) == 0

-- what it finds in them
unfoldable pub rows_read : App → List Text → List Row
rows_read app words = matches_of app words

unfoldable pub value_of : List Row → Text → Option Text
value_of rows id = first_of id rows

-- a text is there, and is this one
abbrev pub is_text : Text → Option Text → Bool
is_text wanted None = false
is_text wanted (Some text) = bytes_eq text wanted

-- a word that may be given is given
unfoldable pub is_set : List Row → Text → Bool
is_set rows id = is_text (codes "true") (value_of rows id)

-- the first word
abbrev pub is_command : List ℕ → List Text → Bool
is_command name [] = false
is_command name (word ∷ words) = bytes_eq word name

-- ## `pipe NAME STEP DURATION`

-- the plan of a run
pub record PipePlan : Type 0 where
  pub name : List ℕ
  pub step : ℕ
  pub duration : ℕ

-- one or more decimal digits, of a number from low to high
abbrev pub is_number : ℕ → ℕ → List ℕ → Bool
is_number low high text =
    nat_lt 0 (length text) && list_all is_ascii_digit text && nat_le low (digits_value 10 text) && nat_le (digits_value 10 text) high

-- NAME is a name, STEP is from 1 to 2^60, DURATION from 0 to 2^61
abbrev pub plan_from : Text → Text → Text → Option PipePlan
plan_from name step duration =
    if is_name name && is_number 1 (2 ^ 60) step && is_number 0 (2 ^ 61) duration
    then Some (record { name = name; step = digits_value 10 step; duration = digits_value 10 duration })
    else None

abbrev pub plan_in : List Row → Option PipePlan
plan_in rows =
    option_and_then (λ name. option_and_then (λ step. option_and_then (λ duration. plan_from name step duration)
    (value_of rows (codes "DURATION"))) (value_of rows (codes "STEP"))) (value_of rows (codes "NAME"))

abbrev pub plan_of : List Text → Option PipePlan
plan_of words =
    if is_command (codes "pipe") words && takes_words pipe_app words then plan_in (rows_read pipe_app words) else None

-- ## `check FILE`

-- the file of the command of this name
abbrev pub file_in : List ℕ → App → List Text → Option Text
file_in name app words = if is_command name words && takes_words app words then value_of (rows_read app words) (codes "FILE") else None

abbrev pub file_to_check : List Text → Option Text
file_to_check words = file_in (codes "check") check_app words

-- ## `simulate FILE [--report]`

-- which file is run, and whether its report is written in place of the journals
pub record SimulationPlan : Type 0 where
  pub file : List ℕ
  pub report : Bool

abbrev pub simulation_in : List Row → Option SimulationPlan
simulation_in rows =
    option_map (λ file. record { file = file; report = is_set rows (codes "report") }) (value_of rows (codes "FILE"))

abbrev pub simulation_of : List Text → Option SimulationPlan
simulation_of words =
    if is_command (codes "simulate") words && takes_words simulate_app words then simulation_in (rows_read simulate_app words) else None

-- ## `generate NUMBER PARTICIPANTS STEPS [--run]`

-- what a scenario is made of, and whether it is run
pub record ScenarioPlan : Type 0 where
  pub number : ℕ
  pub participants : ℕ
  pub steps : ℕ
  pub run : Bool

-- NUMBER is from 0 to 2^64 - 1, PARTICIPANTS from 2 to 32, STEPS from 1 to 2,000
unfoldable pub scenario_from : Text → Text → Text → Bool → Option ScenarioPlan
scenario_from number participants steps run =
    if is_number 0 18446744073709551615 number && is_number 2 32 participants && is_number 1 2000 steps
    then Some (record { number = digits_value 10 number; participants = digits_value 10 participants; steps = digits_value 10 steps; run = run })
    else None

abbrev pub scenario_in : List Row → Option ScenarioPlan
scenario_in rows =
    option_and_then (λ number. option_and_then (λ participants. option_and_then (λ steps. scenario_from number participants steps (is_set rows (codes "run")))
    (value_of rows (codes "STEPS"))) (value_of rows (codes "PARTICIPANTS"))) (value_of rows (codes "NUMBER"))

abbrev pub scenario_of : List Text → Option ScenarioPlan
scenario_of words =
    if is_command (codes "generate") words && takes_words generate_app words then scenario_in (rows_read generate_app words) else None
