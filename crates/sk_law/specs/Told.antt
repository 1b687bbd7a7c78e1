-- What the app is told of a journal.
use Rattle.std.specs.Prelude.{ℕ, ◌-◌, List, [], ◌∷◌, ◌++◌, Option, slice_get, option_to_list}
use Rattle.std.specs.Option.{option_map}
use Rattle.sk_msg.specs.declared.content.Content.{Content}
use Rattle.sk_msg.specs.declared.entry.Entry.{Entry}
use Rattle.sk_msg.specs.declared.entry.Entry.TheVariants.{Hand, Did, State as Entered}
use Rattle.sk_msg.specs.declared.state.State.{State}
use Rattle.sk_msg.specs.declared.state.State.TheVariants.{Stopped, ShuttingDown, Shutdown, Aborting}
use Rattle.sk_law.specs.declared.made.Heard.{Heard}
use Rattle.sk_law.specs.declared.made.Heard.TheVariants as hearings
use Rattle.sk_law.specs.declared.made.Notice.{Notice}
use Rattle.sk_law.specs.declared.made.Notice.TheVariants as told
use Rattle.sk_law.specs.Readings.{got, state_of}

-- what each of these entries gives, judged on all that stands before it
abbrev pub gather : {X : Type 0} → (List Entry → Entry → List X) → List Entry → List Entry → List X
gather gives before [] = []
gather gives before (e ∷ es) = gives before e ++ gather gives (before ++ e ∷ []) es

-- ## Messages and answers

-- the message at a place of a peer, from 1
abbrev pub message_at : List Entry → ℕ → ℕ → Option Content
message_at es p place = slice_get (got es p) (place - 1)

-- what the app hears by an entry: by a Hand the message at its place, where one was got, and by a Did its code
abbrev pub heard_by : List Entry → Entry → List Heard
heard_by before (Hand p place service) =
    option_to_list (option_map (λ m. hearings.Message p place service m) (message_at before p place))
heard_by before (Did service code message) = hearings.Answer service code ∷ []
heard_by before _ = []

-- each Hand with the message at its place, and each Did with its code
abbrev pub heard : List Entry → List Heard
heard es = gather heard_by [] es

-- ## Notices

-- what the app is told before a state: Stop before Stopped, and before Shutdown what it comes from, Shutdown or Abort
abbrev pub notice_before : State → State → List Notice
notice_before last Stopped = told.Stop ∷ []
notice_before ShuttingDown Shutdown = told.Shutdown ∷ []
notice_before Aborting Shutdown = told.Abort ∷ []
notice_before _ _ = []

-- what the app is notified of by an entry
abbrev pub notices_by : State → Entry → List Notice
notices_by last (Entered state) = notice_before last state ++ told.State state ∷ []
notices_by last _ = []

-- each state, and what comes before it. The first, that of making, is told to nobody: the app is told the others
abbrev pub notices : List Entry → List Notice
notices es = gather (λ before e. notices_by (state_of before) e) [] es
