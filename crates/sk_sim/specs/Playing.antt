-- A participant's script while an app carries it out, and how it agrees with what the app was called with.
use Rattle.std.specs.Prelude.{◌≡◌, ℕ, nat_lt, nat_le, Bool, true, false, not, List, [], ◌∷◌, ◌++◌, length, filter, map, take, Some, slice_get, if◌then◌else◌}
use Rattle.std.specs.List.{filter_map}
use Rattle.sk_msg.specs.declared.action.Action.{Action}
use Rattle.sk_law.specs.declared.made.Made.{Made}
use Rattle.sk_law.specs.declared.visible.Visible.{Visible}
use Rattle.sk_law.specs.Outbox.{Outbox}
use Rattle.sk_law.specs.Script.{Delivery, View, delivered}
use Rattle.sk_law.specs.Visible.{is_between, shown, sort}
use Rattle.sk_machine.specs.Machines.{MachineValue, part_script, first_values}
use Rattle.sk_machine.specs.Playing.{PartScript, Played, ready, script, script_of, values_after}
use Rattle.sk_script.specs.Scenarios.{PartValue, ScenarioValue, scope_of}
use Rattle.sk_sim.specs.Played.{HasPlayed, handed, is_unstarted, last_begun, views_called}

-- ## Carrying out a script

-- a script with the values of its variables, the messages that its steps may see, in order, the time of the last step, 0 before
-- the first, and whether the ready list was carried out
pub record RunningValue : Type 0 where
  pub machine : MachineValue
  pub visible : List Visible
  pub last : ℕ
  pub started : Bool

-- what is carried out for a participant of a scenario
abbrev pub part_of : PartValue → PartScript
part_of part = part_script (scope_of part) part.ready part.script

-- before the first call
abbrev pub first_running : PartValue → RunningValue
first_running part = record {
  machine = record { part = part_of part; values = first_values part.vars };
  visible = [];
  last = 0;
  started = false;
}

-- what the ready list does
abbrev pub readied : RunningValue → Played
readied r = ready r.machine.part r.machine.values

-- what a ready handler asks for: nothing, where the ready list was carried out before
abbrev pub start_asks : RunningValue → List Action
start_asks r = if r.started then [] else (readied r).actions

-- with the ready list carried out
abbrev pub started : RunningValue → RunningValue
started r =
    if r.started then r
    else record r { machine = record { part = r.machine.part; values = (readied r).values }; started = true }

-- what a step at this time sees
abbrev pub seen_at : RunningValue → ℕ → List Delivery
seen_at r at = map delivered (filter (is_between r.last at) r.visible)

-- what the rules do in a step at this time, where the ready list was carried out
abbrev pub step_plays : RunningValue → ℕ → Played
step_plays r at = script r.machine.part r.machine.values at (seen_at r at)

-- what a step asks for
abbrev pub step_asks : RunningValue → ℕ → List Action
step_asks r at = (step_plays (started r) at).actions

-- behind a step
abbrev pub played_on : RunningValue → ℕ → RunningValue
played_on r at = record r { machine = record { part = r.machine.part; values = (step_plays r at).values }; last = at }

-- behind a step, in front of which the ready list is carried out, if it wasn't
abbrev pub stepped : RunningValue → ℕ → RunningValue
stepped r at = played_on (started r) at

-- what an outbox has of these that are asked for: the first 256, and whether there are more
abbrev pub offered : List Action → Outbox
offered all = record { actions = take 256 all; over = nat_lt 256 (length all) }

-- an outbox that one more was offered to: what it has no room for it notes
abbrev pub offer : Outbox → Action → Outbox
offer out action = if nat_le 256 (length out.actions) then record out { over = true } else record out { actions = out.actions ++ action ∷ [] }

-- ## What it has to do with the calls

-- the values of the variables, behind the ready list or before it, and behind these steps
abbrev pub values_behind : Bool → PartScript → List ℕ → List View → List ℕ
values_behind begun part first steps = if begun then values_after part first steps else first

-- this script was carried out in these calls, from these values on
pub record IsPlaying (part : PartScript) (first : List ℕ) (now : RunningValue) (made : List Made) : Type 0 where
  pub part_is : now.machine.part ≡ part
  pub values_are : now.machine.values ≡ values_behind now.started part first (views_called made)
  pub visible_is : now.visible ≡ sort (filter_map shown (handed made))
  pub last_is : now.last ≡ last_begun made
  pub started_is : now.started ≡ not (is_unstarted made)

-- the app of this participant asked in its calls for what its script says; and as long as no memory was refused in them, the
-- script is as they left it
pub record IsScripted (S : ScenarioValue) (number : ℕ) (failed : Bool) (now : RunningValue) (made : List Made) : Type 0 where
  pub played : (part : PartValue) → slice_get S.participants number ≡ Some part →
      HasPlayed (script_of (part_of part) (first_values part.vars)) made
  pub running : failed ≡ false → (part : PartValue) → slice_get S.participants number ≡ Some part →
      IsPlaying (part_of part) (first_values part.vars) now made
