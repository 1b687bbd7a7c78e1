-- More journals that are lawful, each short: A's, which is number 0, coordinated and steps by 10. It requires itself alone;
-- in `steered` a tool says so.
use Rattle.std.specs.Prelude.{ℕ, zero, suc, true, false, List, [], ◌∷◌, ◌++◌, Some, None}
use Rattle.sk_law.specs.Readings.{head}
use Rattle.sk_msg.specs.declared.bus.LinChecksum.TheVariants as checksums
use Rattle.sk_msg.specs.declared.bus.LinMode.TheVariants as modes
use Rattle.sk_msg.specs.declared.bus.LinStatus.TheVariants as statuses
use Rattle.sk_msg.specs.declared.command.Command.TheVariants as commands
use Rattle.sk_msg.specs.declared.command.Verdict.TheVariants.{Accepted, Refused}
use Rattle.sk_msg.specs.declared.content.Content.TheVariants as contents
use Rattle.sk_msg.specs.declared.role.Role.TheVariants.{Participant, Tool}
use Rattle.sk_msg.specs.declared.service.ServiceKind.TheVariants as kinds
use Rattle.sk_msg.specs.declared.state.State.TheVariants as states
use Rattle.sk_msg.specs.declared.entry.Entry.{Entry}
use Rattle.sk_msg.specs.declared.entry.Entry.TheVariants.{Got, Put, Hand, State as Entered, System as Judged, Begin, End, Ask, Gone, Did, Fault}
use Rattle.sk_law.specs.declared.setup.Setup.{Setup}

-- so many of them
abbrev pub times : {X : Type 0} → ℕ → X → List X
times zero x = []
times (suc n) x = x ∷ times n x

-- Step 1 asks for a pause of two turns.
abbrev pub pausing : Setup
pausing = record {
  number = 0;
  names = ((65 ∷ []) ∷ []);
  coordinated = true;
  step = (Some 10);
  is_async = false;
  ready_async = false;
  services = [];
  duration = 20;
  required = (Some ((65 ∷ []) ∷ []));
}

abbrev pub pausing_journal : List Entry
pausing_journal =
    Entered states.ServicesCreated
    ∷ Judged states.ServicesCreated
    ∷ Entered states.CommunicationInitializing
    ∷ Judged states.CommunicationInitializing
    ∷ Entered states.CommunicationInitialized
    ∷ Judged states.CommunicationInitialized
    ∷ Entered states.ReadyToRun
    ∷ Judged states.ReadyToRun
    ∷ Entered states.Running
    ∷ Judged states.Running
    ∷ Begin 1 0
    ∷ Ask commands.Pause Accepted
    ∷ Entered states.Paused
    ∷ Judged states.Paused
    ∷ End 1
    ∷ Ask commands.Continue Accepted
    ∷ Entered states.Running
    ∷ Judged states.Running
    ∷ Begin 2 10
    ∷ End 2
    ∷ []

-- Step 1 asks for Stop; the other, B, is autonomous and unsynchronised.
abbrev pub stopping : Setup
stopping = record {
  number = 0;
  names = ((65 ∷ []) ∷ (66 ∷ []) ∷ []);
  coordinated = true;
  step = (Some 10);
  is_async = false;
  ready_async = false;
  services = [];
  duration = 20;
  required = (Some ((65 ∷ []) ∷ []));
}

abbrev pub stopping_journal : List Entry
stopping_journal =
    Put 1 (contents.Hello (65 ∷ []) (Participant true true) [])
    ∷ Put 1 contents.ServicesEnd
    ∷ Entered states.ServicesCreated
    ∷ Put 1 (contents.Status states.ServicesCreated 0)
    ∷ Judged states.ServicesCreated
    ∷ Got 1 (contents.Hello (66 ∷ []) (Participant false false) [])
    ∷ Got 1 contents.ServicesEnd
    ∷ Entered states.CommunicationInitializing
    ∷ Put 1 (contents.Status states.CommunicationInitializing 0)
    ∷ Judged states.CommunicationInitializing
    ∷ Entered states.CommunicationInitialized
    ∷ Put 1 (contents.Status states.CommunicationInitialized 0)
    ∷ Judged states.CommunicationInitialized
    ∷ Entered states.ReadyToRun
    ∷ Put 1 (contents.Status states.ReadyToRun 0)
    ∷ Judged states.ReadyToRun
    ∷ Entered states.Running
    ∷ Put 1 (contents.Status states.Running 0)
    ∷ Judged states.Running
    ∷ Put 1 (contents.NextStep 0 10)
    ∷ Begin 1 0
    ∷ Ask commands.Stop Accepted
    ∷ Entered states.Stopping
    ∷ Put 1 (contents.Status states.Stopping 11)
    ∷ Judged states.Stopping
    ∷ End 1
    ∷ Put 1 (contents.NextStep 10 10)
    ∷ Entered states.Stopped
    ∷ Put 1 (contents.Status states.Stopped 0)
    ∷ Judged states.Stopped
    ∷ Entered states.ShuttingDown
    ∷ Put 1 (contents.Status states.ShuttingDown 0)
    ∷ Judged states.ShuttingDown
    ∷ Entered states.Shutdown
    ∷ Put 1 (contents.Status states.Shutdown 0)
    ∷ Judged states.Shutdown
    ∷ Put 1 contents.Leave
    ∷ []

-- Step 1 asks for more than 256 things: its step never ends.
abbrev pub eager : Setup
eager = record {
  number = 0;
  names = ((65 ∷ []) ∷ []);
  coordinated = true;
  step = (Some 10);
  is_async = false;
  ready_async = false;
  services = [];
  duration = 20;
  required = (Some ((65 ∷ []) ∷ []));
}

abbrev pub eager_journal : List Entry
eager_journal =
    Entered states.ServicesCreated
    ∷ Judged states.ServicesCreated
    ∷ Entered states.CommunicationInitializing
    ∷ Judged states.CommunicationInitializing
    ∷ Entered states.CommunicationInitialized
    ∷ Judged states.CommunicationInitialized
    ∷ Entered states.ReadyToRun
    ∷ Judged states.ReadyToRun
    ∷ Entered states.Running
    ∷ Judged states.Running
    ∷ Begin 1 0
    ∷ (times 256 (Ask commands.Continue (Refused states.Running)))
    ++ Fault 2
    ∷ Entered states.Error
    ∷ Judged states.Error
    ∷ Ask commands.Abort Accepted
    ∷ Entered states.Aborting
    ∷ Judged states.Aborting
    ∷ Entered states.Shutdown
    ∷ Judged states.Shutdown
    ∷ []

-- Without required names a tool says what the simulation needs, aborts it, and says then what no tool may: it is gone.
abbrev pub steered : Setup
steered = record {
  number = 0;
  names = ((65 ∷ []) ∷ []);
  coordinated = true;
  step = (Some 10);
  is_async = false;
  ready_async = false;
  services = [];
  duration = 20;
  required = None;
}

abbrev pub steered_journal : List Entry
steered_journal =
    Entered states.ServicesCreated
    ∷ Put 1 (contents.Hello (65 ∷ []) (Participant true true) [])
    ∷ Put 1 contents.ServicesEnd
    ∷ Put 1 (contents.Status states.ServicesCreated 0)
    ∷ Got 1 (contents.Hello (84 ∷ []) Tool [])
    ∷ Got 1 (contents.Workflow ((65 ∷ []) ∷ []))
    ∷ Judged states.ServicesCreated
    ∷ Entered states.CommunicationInitializing
    ∷ Put 1 (contents.Status states.CommunicationInitializing 0)
    ∷ Judged states.CommunicationInitializing
    ∷ Got 1 contents.Abort
    ∷ Entered states.Aborting
    ∷ Put 1 (contents.Status states.Aborting 0)
    ∷ Judged states.Aborting
    ∷ Got 1 (contents.Status states.Running 0)
    ∷ Gone 1 8
    ∷ Entered states.Shutdown
    ∷ Judged states.Shutdown
    ∷ []

-- B says Hello twice, and is gone for it.
abbrev pub offended : Setup
offended = record {
  number = 0;
  names = ((65 ∷ []) ∷ (66 ∷ []) ∷ []);
  coordinated = true;
  step = (Some 10);
  is_async = false;
  ready_async = false;
  services = [];
  duration = 20;
  required = (Some ((65 ∷ []) ∷ []));
}

abbrev pub offended_journal : List Entry
offended_journal =
    Put 1 (contents.Hello (65 ∷ []) (Participant true true) [])
    ∷ Put 1 contents.ServicesEnd
    ∷ Entered states.ServicesCreated
    ∷ Put 1 (contents.Status states.ServicesCreated 0)
    ∷ Judged states.ServicesCreated
    ∷ Got 1 (contents.Hello (66 ∷ []) (Participant false false) [])
    ∷ Got 1 contents.ServicesEnd
    ∷ Entered states.CommunicationInitializing
    ∷ Put 1 (contents.Status states.CommunicationInitializing 0)
    ∷ Judged states.CommunicationInitializing
    ∷ Entered states.CommunicationInitialized
    ∷ Put 1 (contents.Status states.CommunicationInitialized 0)
    ∷ Judged states.CommunicationInitialized
    ∷ Entered states.ReadyToRun
    ∷ Put 1 (contents.Status states.ReadyToRun 0)
    ∷ Judged states.ReadyToRun
    ∷ Entered states.Running
    ∷ Put 1 (contents.Status states.Running 0)
    ∷ Judged states.Running
    ∷ Put 1 (contents.NextStep 0 10)
    ∷ Got 1 (contents.Hello (66 ∷ []) (Participant false false) [])
    ∷ Gone 1 8
    ∷ Entered states.Error
    ∷ Judged states.Error
    ∷ Ask commands.Abort Accepted
    ∷ Entered states.Aborting
    ∷ Judged states.Aborting
    ∷ Entered states.Shutdown
    ∷ Judged states.Shutdown
    ∷ []

-- B calls; the callback answers that call twice, and the second answer is refused.
abbrev pub serving : Setup
serving = record {
  number = 0;
  names = ((65 ∷ []) ∷ (66 ∷ []) ∷ []);
  coordinated = true;
  step = (Some 10);
  is_async = false;
  ready_async = false;
  services = ((record { id = 0; kind = kinds.Server; name = (83 ∷ []); spec = record { topic = (84 ∷ []); media = []; labels = [] }; history = false }) ∷ []);
  duration = 20;
  required = (Some ((65 ∷ []) ∷ []));
}

abbrev pub serving_journal : List Entry
serving_journal =
    Put 1 (contents.Hello (65 ∷ []) (Participant true true) [])
    ∷ Put 1 (contents.ServiceAdd (record { id = 0; kind = kinds.Server; name = (83 ∷ []); spec = record { topic = (84 ∷ []); media = []; labels = [] }; history = false }))
    ∷ Put 1 contents.ServicesEnd
    ∷ Entered states.ServicesCreated
    ∷ Put 1 (contents.Status states.ServicesCreated 0)
    ∷ Judged states.ServicesCreated
    ∷ Got 1 (contents.Hello (66 ∷ []) (Participant false false) [])
    ∷ Got 1 (contents.ServiceAdd (record { id = 0; kind = kinds.Client; name = (67 ∷ []); spec = record { topic = (84 ∷ []); media = []; labels = [] }; history = false }))
    ∷ Got 1 contents.ServicesEnd
    ∷ Entered states.CommunicationInitializing
    ∷ Put 1 (contents.Status states.CommunicationInitializing 0)
    ∷ Judged states.CommunicationInitializing
    ∷ Entered states.CommunicationInitialized
    ∷ Put 1 (contents.Status states.CommunicationInitialized 0)
    ∷ Judged states.CommunicationInitialized
    ∷ Entered states.ReadyToRun
    ∷ Put 1 (contents.Status states.ReadyToRun 0)
    ∷ Judged states.ReadyToRun
    ∷ Entered states.Running
    ∷ Put 1 (contents.Status states.Running 0)
    ∷ Judged states.Running
    ∷ Put 1 (contents.NextStep 0 10)
    ∷ Got 1 (contents.Call (head 0 0 0) 1 (7 ∷ []))
    ∷ Hand 1 4 0
    ∷ Did 0 0 (Some (contents.Reply (head 0 0 0) 0 1 (8 ∷ [])))
    ∷ Put 1 (contents.Reply (head 0 0 0) 0 1 (8 ∷ []))
    ∷ Did 0 4 None
    ∷ []

-- A is the master of a LIN bus: it sends a header, to which B answers, lets the bus sleep, and may send no header then.
abbrev pub mastering : Setup
mastering = record {
  number = 0;
  names = ((65 ∷ []) ∷ (66 ∷ []) ∷ []);
  coordinated = true;
  step = (Some 10);
  is_async = false;
  ready_async = false;
  services = ((record { id = 0; kind = kinds.Lin; name = (76 ∷ []); spec = record { topic = (84 ∷ []); media = []; labels = [] }; history = false }) ∷ []);
  duration = 20;
  required = (Some ((65 ∷ []) ∷ []));
}

abbrev pub mastering_journal : List Entry
mastering_journal =
    Put 1 (contents.Hello (65 ∷ []) (Participant true true) [])
    ∷ Put 1 (contents.ServiceAdd (record { id = 0; kind = kinds.Lin; name = (76 ∷ []); spec = record { topic = (84 ∷ []); media = []; labels = [] }; history = false }))
    ∷ Put 1 contents.ServicesEnd
    ∷ Entered states.ServicesCreated
    ∷ Put 1 (contents.Status states.ServicesCreated 0)
    ∷ Judged states.ServicesCreated
    ∷ Got 1 (contents.Hello (66 ∷ []) (Participant false false) [])
    ∷ Got 1 (contents.ServiceAdd (record { id = 0; kind = kinds.Lin; name = (77 ∷ []); spec = record { topic = (84 ∷ []); media = []; labels = [] }; history = false }))
    ∷ Got 1 contents.ServicesEnd
    ∷ Entered states.CommunicationInitializing
    ∷ Put 1 (contents.Status states.CommunicationInitializing 0)
    ∷ Judged states.CommunicationInitializing
    ∷ Entered states.CommunicationInitialized
    ∷ Put 1 (contents.Status states.CommunicationInitialized 0)
    ∷ Judged states.CommunicationInitialized
    ∷ Did 0 0 None
    ∷ Entered states.ReadyToRun
    ∷ Put 1 (contents.Status states.ReadyToRun 0)
    ∷ Judged states.ReadyToRun
    ∷ Entered states.Running
    ∷ Put 1 (contents.Status states.Running 0)
    ∷ Judged states.Running
    ∷ Put 1 (contents.NextStep 0 10)
    ∷ Got 1 (contents.LinResponse (head 0 0 0) (record { id = 5; mode = modes.TxUnconditional; checksum = checksums.Classic; payload = (1 ∷ []) }))
    ∷ Begin 1 0
    ∷ Did 0 0 (Some (contents.Lin (head 0 0 1) (record { id = 5; checksum = checksums.Classic; status = statuses.RxOk; payload = (1 ∷ []) })))
    ∷ Put 1 (contents.Lin (head 0 0 1) (record { id = 5; checksum = checksums.Classic; status = statuses.RxOk; payload = (1 ∷ []) }))
    ∷ Did 0 0 (Some (contents.Lin (head 0 0 1) (record { id = 60; checksum = checksums.Classic; status = statuses.RxOk; payload = (0 ∷ 255 ∷ 255 ∷ 255 ∷ 255 ∷ 255 ∷ 255 ∷ 255 ∷ []) })))
    ∷ Put 1 (contents.Lin (head 0 0 1) (record { id = 60; checksum = checksums.Classic; status = statuses.RxOk; payload = (0 ∷ 255 ∷ 255 ∷ 255 ∷ 255 ∷ 255 ∷ 255 ∷ 255 ∷ []) }))
    ∷ Did 0 1 None
    ∷ End 1
    ∷ Put 1 (contents.NextStep 10 10)
    ∷ []
