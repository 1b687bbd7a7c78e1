-- Rules of the table of edges, each from a test that is computed over the whole table.
use Rattle.std.proofs.Common.{◌≡◌, Bool, true, false, List, [], ◌∷◌, Option, Some, None, refl}
use Rattle.std.specs.Prelude.{◌&&◌, ◌||◌, not, is_some}
use Rattle.std.specs.List.{list_all}
use Rattle.std.proofs.lemmas.Bool.{and_parts}
use Rattle.sk_msg.specs.States.{is_state}
use Rattle.sk_msg.specs.Edges.{has_edge, has_edge_of, led_to}
use Rattle.sk_msg.specs.declared.state.State.{State}
use Rattle.sk_msg.specs.declared.command.Command.{Command}
use Rattle.sk_msg.specs.declared.command.Command.TheVariants.{Pause, Continue, Stop, ReportError, Abort}
use Rattle.sk_lifecycle.proofs.StateLaws.{all_states, each_state, each_pair}

-- ## A test over all commands is a rule at each

abbrev pub all_commands : List Command
all_commands = Pause ∷ Continue ∷ Stop ∷ ReportError ∷ Abort ∷ []

pub each_command : (test : Command → Bool) → list_all test all_commands ≡ true → (command : Command) → test command ≡ true
each_command test all command = at command
  where
    from_pause : (test Pause ≡ true) × (list_all test (Continue ∷ Stop ∷ ReportError ∷ Abort ∷ []) ≡ true)
    from_pause = and_parts (test Pause) (list_all test (Continue ∷ Stop ∷ ReportError ∷ Abort ∷ [])) all

    from_continue : (test Continue ≡ true) × (list_all test (Stop ∷ ReportError ∷ Abort ∷ []) ≡ true)
    from_continue = and_parts (test Continue) (list_all test (Stop ∷ ReportError ∷ Abort ∷ [])) from_pause.1

    from_stop : (test Stop ≡ true) × (list_all test (ReportError ∷ Abort ∷ []) ≡ true)
    from_stop = and_parts (test Stop) (list_all test (ReportError ∷ Abort ∷ [])) from_continue.1

    from_report : (test ReportError ≡ true) × (list_all test (Abort ∷ []) ≡ true)
    from_report = and_parts (test ReportError) (list_all test (Abort ∷ [])) from_stop.1

    at : (command : Command) → test command ≡ true
    at Pause = from_pause.0
    at Continue = from_continue.0
    at Stop = from_stop.0
    at ReportError = from_report.0
    at Abort = (and_parts (test Abort) true from_report.1).0

-- ## Where a command leads

-- an edge of the command leads there
abbrev leads_along : State → Command → Option State → Bool
leads_along from command None = true
leads_along from command (Some to) = has_edge_of command from to

-- where a command leads nowhere the state has no edge of it, and each of its edges is an edge
abbrev comes_along : Command → State → State → Bool
comes_along command from to = not (has_edge_of command from to) || (has_edge from to && is_some (led_to from command))

goes_right : (command : Command) (from : State) → leads_along from command (led_to from command) ≡ true
unfolding is_state has_edge_of led_to
goes_right command from =
    each_state (λ a. leads_along a command (led_to a command)) (each_command (λ c. list_all (λ a. leads_along a c (led_to a c)) all_states) refl command) from

comes_right : (command : Command) (from to : State) → comes_along command from to ≡ true
unfolding is_state has_edge has_edge_of led_to
comes_right command from to =
    each_pair (comes_along command) (each_command (λ c. list_all (λ a. list_all (comes_along c a) all_states) all_states) refl command) from to

pub led_to-edge : (from : State) (command : Command) (to : State) → led_to from command ≡ Some to → has_edge_of command from to ≡ true
led_to-edge from command to leads = rw leads at (goes_right command from)

none_of : (of edge : Bool) → (not of || (edge && false)) ≡ true → of ≡ false
none_of true true h = absurd cc
none_of true false h = absurd cc
none_of false edge h = refl

pub led_to-none : (from : State) (command : Command) → led_to from command ≡ None → (to : State) → has_edge_of command from to ≡ false
led_to-none from command nowhere to =
    none_of (has_edge_of command from to) (has_edge from to) (rw nowhere at (comes_right command from to))

both_of : (of edge some : Bool) → (not of || (edge && some)) ≡ true → of ≡ true → edge ≡ true
both_of true true some h is = refl
both_of true false some h is = absurd cc
both_of false edge some h is = absurd cc

pub has_edge_of-edge : (command : Command) (from to : State) → has_edge_of command from to ≡ true → has_edge from to ≡ true
has_edge_of-edge command from to =
    both_of (has_edge_of command from to) (has_edge from to) (is_some (led_to from command)) (comes_right command from to)
