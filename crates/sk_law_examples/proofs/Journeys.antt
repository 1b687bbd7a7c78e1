-- The short journals are lawful.
use Rattle.std.specs.Prelude.{true, false, refl, List, [], ◌∷◌}
use Rattle.sk_law.specs.Readings.{head}
use Rattle.sk_msg.specs.declared.bus.LinChecksum.TheVariants as checksums
use Rattle.sk_msg.specs.declared.bus.LinMode.TheVariants as modes
use Rattle.sk_msg.specs.declared.command.Command.TheVariants as commands
use Rattle.sk_msg.specs.declared.content.Content.TheVariants as contents
use Rattle.sk_msg.specs.declared.role.Role.TheVariants.{Participant, Tool}
use Rattle.sk_msg.specs.declared.service.ServiceKind.TheVariants as kinds
use Rattle.sk_msg.specs.declared.state.State.TheVariants as states
use Rattle.sk_msg.specs.declared.action.Action.TheVariants as actions
use Rattle.sk_msg.specs.declared.bus.LinRole.TheVariants.{Master}
use Rattle.sk_law.specs.Lawful.{IsLawful}
use Rattle.sk_law_examples.specs.Journals.{times, pausing, pausing_journal, stopping, stopping_journal, eager, eager_journal, steered, steered_journal, offended, offended_journal, serving, serving_journal, mastering, mastering_journal}
use Rattle.sk_law_examples.proofs.Computes.{computes}
use Rattle.sk_law_examples.proofs.Replay.{Event, Gets, Adds, Turns, nothing, by_replay}

abbrev pausing_events : List Event
pausing_events =
    Turns nothing
    ∷ Turns nothing
    ∷ Turns nothing
    ∷ Turns nothing
    ∷ Turns nothing
    ∷ Turns (record { actions = actions.PauseFor 2 ∷ []; over = false })
    ∷ Turns nothing
    ∷ Turns nothing
    ∷ Turns nothing
    ∷ []

pub pausing_is_lawful : IsLawful pausing pausing_journal
unfolding computes
pausing_is_lawful = by_replay pausing pausing_events pausing_journal refl

abbrev stopping_events : List Event
stopping_events =
    Gets 1 (contents.Hello (66 ∷ []) (Participant false false) []) []
    ∷ Gets 1 contents.ServicesEnd []
    ∷ Turns nothing
    ∷ Turns nothing
    ∷ Turns nothing
    ∷ Turns nothing
    ∷ Turns nothing
    ∷ Turns (record { actions = actions.Ask commands.Stop ∷ []; over = false })
    ∷ Turns nothing
    ∷ Turns nothing
    ∷ Turns nothing
    ∷ []

pub stopping_is_lawful : IsLawful stopping stopping_journal
unfolding computes
stopping_is_lawful = by_replay stopping stopping_events stopping_journal refl

abbrev eager_events : List Event
eager_events =
    Turns nothing
    ∷ Turns nothing
    ∷ Turns nothing
    ∷ Turns nothing
    ∷ Turns nothing
    ∷ Turns (record { actions = times 256 (actions.Ask commands.Continue); over = true })
    ∷ Turns nothing
    ∷ Turns nothing
    ∷ []

pub eager_is_lawful : IsLawful eager eager_journal
unfolding computes
eager_is_lawful = by_replay eager eager_events eager_journal refl

abbrev steered_events : List Event
steered_events =
    Adds (84 ∷ [])
    ∷ Gets 1 (contents.Hello (84 ∷ []) Tool []) []
    ∷ Gets 1 (contents.Workflow ((65 ∷ []) ∷ [])) []
    ∷ Turns nothing
    ∷ Gets 1 contents.Abort []
    ∷ Gets 1 (contents.Status states.Running 0) []
    ∷ Turns nothing
    ∷ []

pub steered_is_lawful : IsLawful steered steered_journal
unfolding computes
steered_is_lawful = by_replay steered steered_events steered_journal refl

abbrev offended_events : List Event
offended_events =
    Gets 1 (contents.Hello (66 ∷ []) (Participant false false) []) []
    ∷ Gets 1 contents.ServicesEnd []
    ∷ Turns nothing
    ∷ Turns nothing
    ∷ Turns nothing
    ∷ Turns nothing
    ∷ Turns nothing
    ∷ Gets 1 (contents.Hello (66 ∷ []) (Participant false false) []) []
    ∷ Turns nothing
    ∷ Turns nothing
    ∷ []

pub offended_is_lawful : IsLawful offended offended_journal
unfolding computes
offended_is_lawful = by_replay offended offended_events offended_journal refl

abbrev serving_events : List Event
serving_events =
    Gets 1 (contents.Hello (66 ∷ []) (Participant false false) []) []
    ∷ Gets 1 (contents.ServiceAdd (record { id = 0; kind = kinds.Client; name = (67 ∷ []); spec = record { topic = (84 ∷ []); media = []; labels = [] }; history = false })) []
    ∷ Gets 1 contents.ServicesEnd []
    ∷ Turns nothing
    ∷ Turns nothing
    ∷ Turns nothing
    ∷ Turns nothing
    ∷ Turns nothing
    ∷ Gets 1 (contents.Call (head 0 0 0) 1 (7 ∷ [])) ((record { actions = actions.Submit 0 1 0 1 (8 ∷ []) ∷ actions.Submit 0 1 0 1 (8 ∷ []) ∷ []; over = false }) ∷ [])
    ∷ []

pub serving_is_lawful : IsLawful serving serving_journal
unfolding computes
serving_is_lawful = by_replay serving serving_events serving_journal refl

abbrev mastering_events : List Event
mastering_events =
    Gets 1 (contents.Hello (66 ∷ []) (Participant false false) []) []
    ∷ Gets 1 (contents.ServiceAdd (record { id = 0; kind = kinds.Lin; name = (77 ∷ []); spec = record { topic = (84 ∷ []); media = []; labels = [] }; history = false })) []
    ∷ Gets 1 contents.ServicesEnd []
    ∷ Turns nothing
    ∷ Turns nothing
    ∷ Turns (record { actions = actions.LinInit 0 Master ∷ []; over = false })
    ∷ Turns nothing
    ∷ Turns nothing
    ∷ Gets 1 (contents.LinResponse (head 0 0 0) (record { id = 5; mode = modes.TxUnconditional; checksum = checksums.Classic; payload = (1 ∷ []) })) []
    ∷ Turns (record { actions = actions.LinHeader 0 5 ∷ actions.LinSleep 0 ∷ actions.LinHeader 0 5 ∷ []; over = false })
    ∷ []

pub mastering_is_lawful : IsLawful mastering mastering_journal
unfolding computes
mastering_is_lawful = by_replay mastering mastering_events mastering_journal refl
