-- The examples are lawful.
use Rattle.std.specs.Prelude.{true, false, List, [], ◌∷◌}
use Rattle.sk_law.specs.Readings.{head}
use Rattle.sk_msg.specs.declared.content.Content.TheVariants as contents
use Rattle.sk_msg.specs.declared.role.Role.TheVariants.{Participant}
use Rattle.sk_msg.specs.declared.service.ServiceKind.TheVariants as kinds
use Rattle.sk_msg.specs.declared.state.State.TheVariants as states
use Rattle.std.specs.Prelude.{refl}
use Rattle.sk_msg.specs.declared.action.Action.TheVariants as actions
use Rattle.sk_law.specs.Lawful.{IsLawful}
use Rattle.sk_law_examples.proofs.Computes.{computes}
use Rattle.sk_law_examples.proofs.Replay.{Event, Gets, Loses, Completes, Turns, nothing, by_replay}
use Rattle.sk_law_examples.specs.Wrong.{begun_front}
use Rattle.sk_law_examples.specs.Examples.{publisher, publisher_journal, alone, alone_journal, subscriber, subscriber_journal, patient, patient_journal, bereft, bereft_journal}

abbrev alone_events : List Event
alone_events =
    Turns nothing
    ∷ Turns nothing
    ∷ Turns nothing
    ∷ Turns nothing
    ∷ Turns nothing
    ∷ Turns nothing
    ∷ Turns nothing
    ∷ Turns nothing
    ∷ Turns nothing
    ∷ Turns nothing
    ∷ Turns nothing
    ∷ []

pub alone_is_lawful : IsLawful alone alone_journal
unfolding computes
alone_is_lawful = by_replay alone alone_events alone_journal refl

abbrev subscriber_events : List Event
subscriber_events =
    Gets 0 (contents.Hello (65 ∷ []) (Participant true true) []) []
    ∷ Gets 0 (contents.ServiceAdd (record { id = 0; kind = kinds.Publisher; name = (80 ∷ []); spec = record { topic = (84 ∷ []); media = []; labels = [] }; history = false })) []
    ∷ Gets 0 contents.ServicesEnd []
    ∷ Gets 0 (contents.Status states.ServicesCreated 0) []
    ∷ Turns nothing
    ∷ Gets 0 (contents.Status states.CommunicationInitializing 0) []
    ∷ Gets 0 (contents.Status states.CommunicationInitialized 0) []
    ∷ Turns nothing
    ∷ Turns nothing
    ∷ Gets 0 (contents.Status states.ReadyToRun 0) []
    ∷ Turns nothing
    ∷ Turns nothing
    ∷ Gets 0 (contents.Status states.Running 0) []
    ∷ Gets 0 (contents.NextStep 0 1000000) []
    ∷ Turns nothing
    ∷ Gets 0 (contents.Publish (head 0 0 1) (1 ∷ [])) (nothing ∷ [])
    ∷ Gets 0 (contents.NextStep 1000000 1000000) []
    ∷ Turns nothing
    ∷ Turns nothing
    ∷ Gets 0 (contents.Publish (head 0 1000000 2) (2 ∷ [])) (nothing ∷ [])
    ∷ Gets 0 (contents.NextStep 2000000 1000000) []
    ∷ Gets 0 (contents.Status states.Stopping 0) []
    ∷ Turns nothing
    ∷ Gets 0 (contents.Status states.Stopped 0) []
    ∷ Turns nothing
    ∷ Turns nothing
    ∷ Gets 0 (contents.Status states.ShuttingDown 0) []
    ∷ Gets 0 (contents.Status states.Shutdown 0) []
    ∷ Gets 0 contents.Leave []
    ∷ []

pub subscriber_is_lawful : IsLawful subscriber subscriber_journal
unfolding computes
subscriber_is_lawful = by_replay subscriber subscriber_events subscriber_journal refl

abbrev patient_events : List Event
patient_events =
    Turns nothing
    ∷ Turns nothing
    ∷ Turns nothing
    ∷ Completes 7
    ∷ Completes 0
    ∷ Completes 0
    ∷ Turns nothing
    ∷ Turns nothing
    ∷ Turns nothing
    ∷ Completes 7
    ∷ Completes 1
    ∷ Completes 1
    ∷ Turns nothing
    ∷ Completes 2
    ∷ Turns nothing
    ∷ Turns nothing
    ∷ Turns nothing
    ∷ Turns nothing
    ∷ []

pub patient_is_lawful : IsLawful patient patient_journal
unfolding computes
patient_is_lawful = by_replay patient patient_events patient_journal refl

abbrev bereft_events : List Event
bereft_events =
    Gets 0 (contents.Hello (65 ∷ []) (Participant true true) []) []
    ∷ Gets 0 (contents.ServiceAdd (record { id = 0; kind = kinds.Publisher; name = (80 ∷ []); spec = record { topic = (84 ∷ []); media = []; labels = [] }; history = false })) []
    ∷ Gets 0 contents.ServicesEnd []
    ∷ Gets 0 (contents.Status states.ServicesCreated 0) []
    ∷ Turns nothing
    ∷ Gets 0 (contents.Status states.CommunicationInitializing 0) []
    ∷ Gets 0 (contents.Status states.CommunicationInitialized 0) []
    ∷ Turns nothing
    ∷ Turns nothing
    ∷ Gets 0 (contents.Status states.ReadyToRun 0) []
    ∷ Turns nothing
    ∷ Turns nothing
    ∷ Gets 0 (contents.Status states.Running 0) []
    ∷ Gets 0 (contents.NextStep 0 1000000) []
    ∷ Gets 0 (contents.Publish (head 0 0 1) (1 ∷ [])) (nothing ∷ [])
    ∷ Gets 0 (contents.NextStep 1000000 1000000) []
    ∷ Turns nothing
    ∷ Loses 0 5
    ∷ Turns nothing
    ∷ Turns nothing
    ∷ []

pub bereft_is_lawful : IsLawful bereft bereft_journal
unfolding computes
bereft_is_lawful = by_replay bereft bereft_events bereft_journal refl

abbrev publisher_events : List Event
publisher_events =
    Gets 1 (contents.Hello (66 ∷ []) (Participant true true) []) []
    ∷ Gets 1 (contents.ServiceAdd (record { id = 0; kind = kinds.Subscriber; name = (83 ∷ []); spec = record { topic = (84 ∷ []); media = []; labels = [] }; history = false })) []
    ∷ Gets 1 contents.ServicesEnd []
    ∷ Gets 1 (contents.Status states.ServicesCreated 0) []
    ∷ Turns nothing
    ∷ Turns nothing
    ∷ Gets 1 (contents.Status states.CommunicationInitializing 0) []
    ∷ Turns nothing
    ∷ Gets 1 (contents.Status states.CommunicationInitialized 0) []
    ∷ Turns nothing
    ∷ Gets 1 (contents.Status states.ReadyToRun 0) []
    ∷ Gets 1 (contents.Status states.Running 0) []
    ∷ Turns nothing
    ∷ Gets 1 (contents.NextStep 0 1000000) []
    ∷ Gets 1 (contents.NextStep 1000000 1000000) []
    ∷ Turns (record { actions = ((actions.Publish 0 (1 ∷ [])) ∷ []); over = false })
    ∷ Gets 1 (contents.NextStep 2000000 1000000) []
    ∷ Turns (record { actions = ((actions.Publish 0 (2 ∷ [])) ∷ []); over = false })
    ∷ Turns nothing
    ∷ Turns nothing
    ∷ Gets 1 (contents.Status states.Stopping 0) []
    ∷ Gets 1 (contents.Status states.Stopped 0) []
    ∷ Gets 1 (contents.Status states.ShuttingDown 0) []
    ∷ Turns nothing
    ∷ Gets 1 (contents.Status states.Shutdown 0) []
    ∷ Gets 1 contents.Leave []
    ∷ Turns nothing
    ∷ []

pub publisher_is_lawful : IsLawful publisher publisher_journal
unfolding computes
publisher_is_lawful = by_replay publisher publisher_events publisher_journal refl

abbrev begun_events : List Event
begun_events =
    Gets 0 (contents.Hello (65 ∷ []) (Participant true true) []) []
    ∷ Gets 0 (contents.ServiceAdd (record { id = 0; kind = kinds.Publisher; name = (80 ∷ []); spec = record { topic = (84 ∷ []); media = []; labels = [] }; history = false })) []
    ∷ Gets 0 contents.ServicesEnd []
    ∷ Gets 0 (contents.Status states.ServicesCreated 0) []
    ∷ Turns nothing
    ∷ Gets 0 (contents.Status states.CommunicationInitializing 0) []
    ∷ Gets 0 (contents.Status states.CommunicationInitialized 0) []
    ∷ Turns nothing
    ∷ Turns nothing
    ∷ Gets 0 (contents.Status states.ReadyToRun 0) []
    ∷ Turns nothing
    ∷ Turns nothing
    ∷ Gets 0 (contents.Status states.Running 0) []
    ∷ Gets 0 (contents.NextStep 0 1000000) []
    ∷ Turns nothing
    ∷ Gets 0 (contents.Publish (head 0 0 1) (1 ∷ [])) (nothing ∷ [])
    ∷ Gets 0 (contents.NextStep 999999 1000000) []
    ∷ []

pub begun_is_lawful : IsLawful subscriber begun_front
unfolding computes
begun_is_lawful = by_replay subscriber begun_events begun_front refl
