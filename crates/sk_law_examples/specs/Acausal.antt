-- Two journals that no run makes, since each would need the other's future: A announces its first step behind B's Status of
-- ReadyToRun, and B gets that announcement, and a frame of the step, before it is at ReadyToRun. What one got the other put,
-- in this order; but for B the announcement is out of order, and no Gone follows it.
use Rattle.std.specs.Prelude.{◌≡◌, ℕ, true, false, List, [], ◌∷◌, Some, None, map}
use Rattle.sk_msg.specs.declared.content.Content.TheVariants as contents
use Rattle.sk_msg.specs.declared.entry.Entry.{Entry}
use Rattle.sk_msg.specs.declared.entry.Entry.TheVariants.{Got, Put, State as Entered, System as Judged, Begin, End, Did}
use Rattle.sk_msg.specs.declared.role.Role.TheVariants.{Participant}
use Rattle.sk_msg.specs.declared.service.Service.{Service}
use Rattle.sk_msg.specs.declared.service.ServiceKind.TheVariants as kinds
use Rattle.sk_msg.specs.declared.state.State.TheVariants as states
use Rattle.sk_law.specs.declared.setup.Setup.{Setup}
use Rattle.sk_law.specs.Readings.{head}
use Rattle.sk_law.specs.World.{Member, IsWorld}

-- each has a CAN controller on one network
abbrev pub controller : Service
controller = record { id = 0; kind = kinds.Can; name = (67 ∷ []); spec = record { topic = (67 ∷ []); media = []; labels = [] }; history = false }

-- A, which is ahead
abbrev pub early : Setup
early = record {
  number = 0;
  names = ((65 ∷ []) ∷ (66 ∷ []) ∷ []);
  coordinated = true;
  step = (Some 1000000);
  is_async = false;
  ready_async = false;
  services = (controller ∷ []);
  duration = 3000000;
  required = (Some ((65 ∷ []) ∷ (66 ∷ []) ∷ []));
}

-- B, which is behind
abbrev pub late : Setup
late = record early { number = 1 }

-- A's journal
abbrev pub early_journal : List Entry
early_journal =
    Put 1 (contents.Hello (65 ∷ []) (Participant true true) [])
    ∷ Put 1 (contents.ServiceAdd controller)
    ∷ Put 1 contents.ServicesEnd
    ∷ Entered states.ServicesCreated
    ∷ Put 1 (contents.Status states.ServicesCreated 0)
    ∷ Got 1 (contents.Hello (66 ∷ []) (Participant true true) [])
    ∷ Got 1 (contents.ServiceAdd controller)
    ∷ Got 1 contents.ServicesEnd
    ∷ Got 1 (contents.Status states.ServicesCreated 0)
    ∷ Judged states.ServicesCreated
    ∷ Entered states.CommunicationInitializing
    ∷ Put 1 (contents.Status states.CommunicationInitializing 0)
    ∷ Got 1 (contents.Status states.CommunicationInitializing 0)
    ∷ Judged states.CommunicationInitializing
    ∷ Entered states.CommunicationInitialized
    ∷ Put 1 (contents.Status states.CommunicationInitialized 0)
    ∷ Got 1 (contents.Status states.CommunicationInitialized 0)
    ∷ Judged states.CommunicationInitialized
    ∷ Did 0 0 None
    ∷ Got 1 (contents.Status states.ReadyToRun 0)
    ∷ Entered states.ReadyToRun
    ∷ Put 1 (contents.Status states.ReadyToRun 0)
    ∷ Judged states.ReadyToRun
    ∷ Got 1 (contents.Status states.Running 0)
    ∷ Entered states.Running
    ∷ Put 1 (contents.Status states.Running 0)
    ∷ Judged states.Running
    ∷ Put 1 (contents.NextStep 0 1000000)
    ∷ Got 1 (contents.NextStep 0 1000000)
    ∷ Begin 1 0
    ∷ Did 0 0 (Some (contents.Can (head 0 0 1) (record { id = 1; extended = false; fd = false; payload = (170 ∷ []) })))
    ∷ Put 1 (contents.Can (head 0 0 1) (record { id = 1; extended = false; fd = false; payload = (170 ∷ []) }))
    ∷ End 1
    ∷ Put 1 (contents.NextStep 1000000 1000000)
    ∷ Got 1 (contents.NextStep 1000000 1000000)
    ∷ Begin 2 1000000
    ∷ End 2
    ∷ Put 1 (contents.NextStep 2000000 1000000)
    ∷ Got 1 (contents.NextStep 2000000 1000000)
    ∷ Begin 3 2000000
    ∷ End 3
    ∷ Put 1 (contents.NextStep 3000000 1000000)
    ∷ Got 1 (contents.NextStep 3000000 1000000)
    ∷ Entered states.Stopping
    ∷ Put 1 (contents.Status states.Stopping 0)
    ∷ Judged states.Stopping
    ∷ Got 1 (contents.Status states.Stopping 0)
    ∷ Entered states.Stopped
    ∷ Put 1 (contents.Status states.Stopped 0)
    ∷ Got 1 (contents.Status states.Stopped 0)
    ∷ Judged states.Stopped
    ∷ Entered states.ShuttingDown
    ∷ Put 1 (contents.Status states.ShuttingDown 0)
    ∷ Got 1 (contents.Status states.ShuttingDown 0)
    ∷ Judged states.ShuttingDown
    ∷ Entered states.Shutdown
    ∷ Put 1 (contents.Status states.Shutdown 0)
    ∷ Put 1 contents.Leave
    ∷ Got 1 (contents.Status states.Shutdown 0)
    ∷ Judged states.Shutdown
    ∷ Got 1 contents.Leave
    ∷ []

-- B's journal
abbrev pub late_journal : List Entry
late_journal =
    Put 0 (contents.Hello (66 ∷ []) (Participant true true) [])
    ∷ Put 0 (contents.ServiceAdd controller)
    ∷ Put 0 contents.ServicesEnd
    ∷ Entered states.ServicesCreated
    ∷ Put 0 (contents.Status states.ServicesCreated 0)
    ∷ Got 0 (contents.Hello (65 ∷ []) (Participant true true) [])
    ∷ Got 0 (contents.ServiceAdd controller)
    ∷ Got 0 contents.ServicesEnd
    ∷ Got 0 (contents.Status states.ServicesCreated 0)
    ∷ Judged states.ServicesCreated
    ∷ Got 0 (contents.Status states.CommunicationInitializing 0)
    ∷ Got 0 (contents.Status states.CommunicationInitialized 0)
    ∷ Got 0 (contents.Status states.ReadyToRun 0)
    ∷ Got 0 (contents.Status states.Running 0)
    ∷ Got 0 (contents.NextStep 0 1000000)
    ∷ Got 0 (contents.Can (head 0 0 1) (record { id = 1; extended = false; fd = false; payload = (170 ∷ []) }))
    ∷ Entered states.CommunicationInitializing
    ∷ Put 0 (contents.Status states.CommunicationInitializing 0)
    ∷ Judged states.CommunicationInitializing
    ∷ Entered states.CommunicationInitialized
    ∷ Put 0 (contents.Status states.CommunicationInitialized 0)
    ∷ Judged states.CommunicationInitialized
    ∷ Did 0 0 None
    ∷ Entered states.ReadyToRun
    ∷ Put 0 (contents.Status states.ReadyToRun 0)
    ∷ Judged states.ReadyToRun
    ∷ Entered states.Running
    ∷ Put 0 (contents.Status states.Running 0)
    ∷ Judged states.Running
    ∷ Put 0 (contents.NextStep 0 1000000)
    ∷ Begin 1 0
    ∷ End 1
    ∷ Put 0 (contents.NextStep 1000000 1000000)
    ∷ Got 0 (contents.NextStep 1000000 1000000)
    ∷ Begin 2 1000000
    ∷ End 2
    ∷ Put 0 (contents.NextStep 2000000 1000000)
    ∷ Got 0 (contents.NextStep 2000000 1000000)
    ∷ Begin 3 2000000
    ∷ End 3
    ∷ Put 0 (contents.NextStep 3000000 1000000)
    ∷ Entered states.Stopping
    ∷ Put 0 (contents.Status states.Stopping 0)
    ∷ Judged states.Stopping
    ∷ Entered states.Stopped
    ∷ Put 0 (contents.Status states.Stopped 0)
    ∷ Got 0 (contents.NextStep 3000000 1000000)
    ∷ Got 0 (contents.Status states.Stopping 0)
    ∷ Got 0 (contents.Status states.Stopped 0)
    ∷ Judged states.Stopped
    ∷ Entered states.ShuttingDown
    ∷ Put 0 (contents.Status states.ShuttingDown 0)
    ∷ Entered states.Shutdown
    ∷ Put 0 (contents.Status states.Shutdown 0)
    ∷ Put 0 contents.Leave
    ∷ Got 0 (contents.Status states.ShuttingDown 0)
    ∷ Judged states.ShuttingDown
    ∷ Got 0 (contents.Status states.Shutdown 0)
    ∷ Judged states.Shutdown
    ∷ Got 0 contents.Leave
    ∷ []

-- they are the journals of no lawful world
abbrev pub NoSuchWorld : Type 0
NoSuchWorld = (names : List (List ℕ)) (members : List Member) → IsWorld names members →
    map (λ m. m.setup) members ≡ early ∷ late ∷ [] → map (λ m. m.past.journal) members ≡ early_journal ∷ late_journal ∷ [] → ⊥
