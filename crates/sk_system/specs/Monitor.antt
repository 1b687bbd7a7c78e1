-- What the monitor keeps, and one step of it.
use Rattle.std.specs.Prelude.{ℕ, List, [], ◌∷◌, ◌++◌, Option, Some, None, if◌then◌else◌}
use Rattle.sk_msg.specs.declared.state.State.{State}
use Rattle.sk_msg.specs.declared.state.State.TheVariants.{Invalid}
use Rattle.sk_system.specs.declared.table.Ending.TheVariants.{Left, Lost}
use Rattle.sk_system.specs.declared.table.Seen.{Seen}
use Rattle.sk_system.specs.declared.table.TableEntry.{TableEntry}
use Rattle.sk_system.specs.Lines.{state_line, left_line, lost_line, system_lines}
use Rattle.sk_system.specs.Notice.{Notice, Tells, Leaves, LosesLink, Requires, Nothing}
use Rattle.sk_system.specs.Table.{seen_of, put, with_state, with_ending, is_gone}
use Rattle.sk_system.specs.System.{system_state}

pub record Monitor : Type 0 where
  -- whom the first Workflow required; none before it
  pub required : Option (List (List ℕ))
  -- of each name the last state, and whether it has left or is lost
  pub table : List TableEntry
  -- the state of the last system line; Invalid before the first
  pub printed : State

-- nothing was seen yet
abbrev pub new_monitor : Monitor
new_monitor = record { required = None; table = []; printed = Invalid }

-- the system state, as the participants have it
abbrev pub monitor_system : Monitor → State
monitor_system monitor = system_state monitor.required (λ name. (seen_of monitor.table name).state)

-- the system state was printed, if it wasn't before
abbrev pub with_printed : Monitor → Monitor
with_printed monitor = record monitor { printed = monitor_system monitor }

-- this was seen of this name too
abbrev pub seeing : Monitor → List ℕ → (Seen → Seen) → Monitor
seeing monitor name change = with_printed (record monitor { table = put name (change (seen_of monitor.table name)) monitor.table })

-- a Workflow counts where none came before
abbrev pub requiring : Monitor → Option (List (List ℕ)) → List (List ℕ) → Monitor
requiring monitor None names = with_printed (record monitor { required = Some names })
requiring monitor (Some first) names = monitor

-- what it keeps after a notice of this name; the loss of a link counts where the participant wasn't gone
unfoldable pub monitor_after : Monitor → List ℕ → Notice → Monitor
monitor_after monitor name (Tells state) = seeing monitor name (with_state state)
monitor_after monitor name Leaves = seeing monitor name (with_ending Left)
monitor_after monitor name LosesLink =
    if is_gone (seen_of monitor.table name) then monitor else seeing monitor name (with_ending Lost)
monitor_after monitor name (Requires names) = requiring monitor monitor.required names
monitor_after monitor name Nothing = monitor

-- the line that tells of the notice itself
unfoldable pub own_lines : Monitor → List ℕ → Notice → List (List ℕ)
own_lines monitor name (Tells state) = state_line name state ∷ []
own_lines monitor name Leaves = left_line name ∷ []
own_lines monitor name LosesLink = if is_gone (seen_of monitor.table name) then [] else lost_line name ∷ []
own_lines monitor name (Requires names) = []
own_lines monitor name Nothing = []

-- what it prints then: that line, and the system state where it has changed
abbrev pub monitor_lines : Monitor → List ℕ → Notice → List (List ℕ)
monitor_lines monitor name notice =
    own_lines monitor name notice ++ system_lines monitor.printed (monitor_after monitor name notice).printed
