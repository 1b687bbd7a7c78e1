-- Journals that are lawful, written out.
use Rattle.std.specs.Prelude.{true, false, List, [], ◌∷◌, Some}
use Rattle.sk_law.specs.Readings.{head}
use Rattle.sk_msg.specs.declared.command.Command.TheVariants as commands
use Rattle.sk_msg.specs.declared.command.Verdict.TheVariants.{Accepted}
use Rattle.sk_msg.specs.declared.content.Content.TheVariants as contents
use Rattle.sk_msg.specs.declared.role.Role.TheVariants.{Participant}
use Rattle.sk_msg.specs.declared.service.ServiceKind.TheVariants as kinds
use Rattle.sk_msg.specs.declared.state.State.TheVariants as states
use Rattle.sk_msg.specs.declared.entry.Entry.{Entry}
use Rattle.sk_msg.specs.declared.entry.Entry.TheVariants.{Got, Put, Hand, State as Entered, System as Judged, Begin, Done, End, Ask, Gone, Stray, Did}
use Rattle.sk_law.specs.declared.setup.Setup.{Setup}

-- One coordinated participant, two steps.
abbrev pub alone : Setup
alone = record {
  number = 0;
  names = ((65 ∷ []) ∷ []);
  coordinated = true;
  step = (Some 1000000);
  is_async = false;
  ready_async = false;
  services = [];
  duration = 2000000;
  required = (Some ((65 ∷ []) ∷ []));
}

abbrev pub alone_journal : List Entry
alone_journal =
    Entered states.ServicesCreated
    ∷ Judged states.ServicesCreated
    ∷ Entered states.CommunicationInitializing
    ∷ Judged states.CommunicationInitializing
    ∷ Entered states.CommunicationInitialized
    ∷ Judged states.CommunicationInitialized
    ∷ Entered states.ReadyToRun
    ∷ Judged states.ReadyToRun
    ∷ Entered states.Running
    ∷ Judged states.Running
    ∷ Begin 1 0
    ∷ End 1
    ∷ Begin 2 1000000
    ∷ End 2
    ∷ Entered states.Stopping
    ∷ Judged states.Stopping
    ∷ Entered states.Stopped
    ∷ Judged states.Stopped
    ∷ Entered states.ShuttingDown
    ∷ Judged states.ShuttingDown
    ∷ Entered states.Shutdown
    ∷ Judged states.Shutdown
    ∷ []

-- A publishes in each step, and B, whose journal this is, subscribes to it.
abbrev pub subscriber : Setup
subscriber = record {
  number = 1;
  names = ((65 ∷ []) ∷ (66 ∷ []) ∷ []);
  coordinated = true;
  step = (Some 1000000);
  is_async = false;
  ready_async = false;
  services = ((record { id = 0; kind = kinds.Subscriber; name = (83 ∷ []); spec = record { topic = (84 ∷ []); media = []; labels = [] }; history = false }) ∷ []);
  duration = 2000000;
  required = (Some ((65 ∷ []) ∷ (66 ∷ []) ∷ []));
}

abbrev pub subscriber_journal : List Entry
subscriber_journal =
    Put 0 (contents.Hello (66 ∷ []) (Participant true true) [])
    ∷ Put 0 (contents.ServiceAdd (record { id = 0; kind = kinds.Subscriber; name = (83 ∷ []); spec = record { topic = (84 ∷ []); media = []; labels = [] }; history = false }))
    ∷ Put 0 contents.ServicesEnd
    ∷ Entered states.ServicesCreated
    ∷ Put 0 (contents.Status states.ServicesCreated 0)
    ∷ Got 0 (contents.Hello (65 ∷ []) (Participant true true) [])
    ∷ Got 0 (contents.ServiceAdd (record { id = 0; kind = kinds.Publisher; name = (80 ∷ []); spec = record { topic = (84 ∷ []); media = []; labels = [] }; history = false }))
    ∷ Got 0 contents.ServicesEnd
    ∷ Got 0 (contents.Status states.ServicesCreated 0)
    ∷ Judged states.ServicesCreated
    ∷ Entered states.CommunicationInitializing
    ∷ Put 0 (contents.Status states.CommunicationInitializing 0)
    ∷ Got 0 (contents.Status states.CommunicationInitializing 0)
    ∷ Judged states.CommunicationInitializing
    ∷ Got 0 (contents.Status states.CommunicationInitialized 0)
    ∷ Entered states.CommunicationInitialized
    ∷ Put 0 (contents.Status states.CommunicationInitialized 0)
    ∷ Judged states.CommunicationInitialized
    ∷ Got 0 (contents.Status states.ReadyToRun 0)
    ∷ Entered states.ReadyToRun
    ∷ Put 0 (contents.Status states.ReadyToRun 0)
    ∷ Judged states.ReadyToRun
    ∷ Entered states.Running
    ∷ Put 0 (contents.Status states.Running 0)
    ∷ Put 0 (contents.NextStep 0 1000000)
    ∷ Got 0 (contents.Status states.Running 0)
    ∷ Judged states.Running
    ∷ Got 0 (contents.NextStep 0 1000000)
    ∷ Begin 1 0
    ∷ End 1
    ∷ Put 0 (contents.NextStep 1000000 1000000)
    ∷ Got 0 (contents.Publish (head 0 0 1) (1 ∷ []))
    ∷ Hand 0 10 0
    ∷ Got 0 (contents.NextStep 1000000 1000000)
    ∷ Begin 2 1000000
    ∷ End 2
    ∷ Put 0 (contents.NextStep 2000000 1000000)
    ∷ Entered states.Stopping
    ∷ Put 0 (contents.Status states.Stopping 0)
    ∷ Judged states.Stopping
    ∷ Got 0 (contents.Publish (head 0 1000000 2) (2 ∷ []))
    ∷ Hand 0 12 0
    ∷ Got 0 (contents.NextStep 2000000 1000000)
    ∷ Got 0 (contents.Status states.Stopping 0)
    ∷ Entered states.Stopped
    ∷ Put 0 (contents.Status states.Stopped 0)
    ∷ Got 0 (contents.Status states.Stopped 0)
    ∷ Judged states.Stopped
    ∷ Entered states.ShuttingDown
    ∷ Put 0 (contents.Status states.ShuttingDown 0)
    ∷ Entered states.Shutdown
    ∷ Put 0 (contents.Status states.Shutdown 0)
    ∷ Put 0 contents.Leave
    ∷ Got 0 (contents.Status states.ShuttingDown 0)
    ∷ Judged states.ShuttingDown
    ∷ Got 0 (contents.Status states.Shutdown 0)
    ∷ Judged states.Shutdown
    ∷ Got 0 contents.Leave
    ∷ []

-- An asynchronous ready handler and asynchronous steps, with completions that do not fit.
abbrev pub patient : Setup
patient = record {
  number = 0;
  names = ((65 ∷ []) ∷ []);
  coordinated = true;
  step = (Some 1000);
  is_async = true;
  ready_async = true;
  services = [];
  duration = 1500;
  required = (Some ((65 ∷ []) ∷ []));
}

abbrev pub patient_journal : List Entry
patient_journal =
    Entered states.ServicesCreated
    ∷ Judged states.ServicesCreated
    ∷ Entered states.CommunicationInitializing
    ∷ Judged states.CommunicationInitializing
    ∷ Entered states.CommunicationInitialized
    ∷ Judged states.CommunicationInitialized
    ∷ Stray 7
    ∷ Done 0
    ∷ Stray 0
    ∷ Entered states.ReadyToRun
    ∷ Judged states.ReadyToRun
    ∷ Entered states.Running
    ∷ Judged states.Running
    ∷ Begin 1 0
    ∷ Stray 7
    ∷ Done 1
    ∷ End 1
    ∷ Stray 1
    ∷ Begin 2 1000
    ∷ Done 2
    ∷ End 2
    ∷ Entered states.Stopping
    ∷ Judged states.Stopping
    ∷ Entered states.Stopped
    ∷ Judged states.Stopped
    ∷ Entered states.ShuttingDown
    ∷ Judged states.ShuttingDown
    ∷ Entered states.Shutdown
    ∷ Judged states.Shutdown
    ∷ []

-- The link to the other ends.
abbrev pub bereft : Setup
bereft = record {
  number = 1;
  names = ((65 ∷ []) ∷ (66 ∷ []) ∷ []);
  coordinated = true;
  step = (Some 1000000);
  is_async = false;
  ready_async = false;
  services = ((record { id = 0; kind = kinds.Subscriber; name = (83 ∷ []); spec = record { topic = (84 ∷ []); media = []; labels = [] }; history = false }) ∷ []);
  duration = 2000000;
  required = (Some ((65 ∷ []) ∷ (66 ∷ []) ∷ []));
}

abbrev pub bereft_journal : List Entry
bereft_journal =
    Put 0 (contents.Hello (66 ∷ []) (Participant true true) [])
    ∷ Put 0 (contents.ServiceAdd (record { id = 0; kind = kinds.Subscriber; name = (83 ∷ []); spec = record { topic = (84 ∷ []); media = []; labels = [] }; history = false }))
    ∷ Put 0 contents.ServicesEnd
    ∷ Entered states.ServicesCreated
    ∷ Put 0 (contents.Status states.ServicesCreated 0)
    ∷ Got 0 (contents.Hello (65 ∷ []) (Participant true true) [])
    ∷ Got 0 (contents.ServiceAdd (record { id = 0; kind = kinds.Publisher; name = (80 ∷ []); spec = record { topic = (84 ∷ []); media = []; labels = [] }; history = false }))
    ∷ Got 0 contents.ServicesEnd
    ∷ Got 0 (contents.Status states.ServicesCreated 0)
    ∷ Judged states.ServicesCreated
    ∷ Entered states.CommunicationInitializing
    ∷ Put 0 (contents.Status states.CommunicationInitializing 0)
    ∷ Got 0 (contents.Status states.CommunicationInitializing 0)
    ∷ Judged states.CommunicationInitializing
    ∷ Got 0 (contents.Status states.CommunicationInitialized 0)
    ∷ Entered states.CommunicationInitialized
    ∷ Put 0 (contents.Status states.CommunicationInitialized 0)
    ∷ Judged states.CommunicationInitialized
    ∷ Got 0 (contents.Status states.ReadyToRun 0)
    ∷ Entered states.ReadyToRun
    ∷ Put 0 (contents.Status states.ReadyToRun 0)
    ∷ Judged states.ReadyToRun
    ∷ Entered states.Running
    ∷ Put 0 (contents.Status states.Running 0)
    ∷ Put 0 (contents.NextStep 0 1000000)
    ∷ Got 0 (contents.Status states.Running 0)
    ∷ Judged states.Running
    ∷ Got 0 (contents.NextStep 0 1000000)
    ∷ Got 0 (contents.Publish (head 0 0 1) (1 ∷ []))
    ∷ Hand 0 10 0
    ∷ Got 0 (contents.NextStep 1000000 1000000)
    ∷ Begin 1 0
    ∷ End 1
    ∷ Put 0 (contents.NextStep 1000000 1000000)
    ∷ Gone 0 5
    ∷ Entered states.Error
    ∷ Judged states.Error
    ∷ Ask commands.Abort Accepted
    ∷ Entered states.Aborting
    ∷ Judged states.Aborting
    ∷ Entered states.Shutdown
    ∷ Judged states.Stopping
    ∷ []

-- A publishes in each step; B subscribes to it.
abbrev pub publisher : Setup
publisher = record {
  number = 0;
  names = ((65 ∷ []) ∷ (66 ∷ []) ∷ []);
  coordinated = true;
  step = (Some 1000000);
  is_async = false;
  ready_async = false;
  services = ((record { id = 0; kind = kinds.Publisher; name = (80 ∷ []); spec = record { topic = (84 ∷ []); media = []; labels = [] }; history = false }) ∷ []);
  duration = 2000000;
  required = (Some ((65 ∷ []) ∷ (66 ∷ []) ∷ []));
}

abbrev pub publisher_journal : List Entry
publisher_journal =
    Put 1 (contents.Hello (65 ∷ []) (Participant true true) [])
    ∷ Put 1 (contents.ServiceAdd (record { id = 0; kind = kinds.Publisher; name = (80 ∷ []); spec = record { topic = (84 ∷ []); media = []; labels = [] }; history = false }))
    ∷ Put 1 contents.ServicesEnd
    ∷ Entered states.ServicesCreated
    ∷ Put 1 (contents.Status states.ServicesCreated 0)
    ∷ Got 1 (contents.Hello (66 ∷ []) (Participant true true) [])
    ∷ Got 1 (contents.ServiceAdd (record { id = 0; kind = kinds.Subscriber; name = (83 ∷ []); spec = record { topic = (84 ∷ []); media = []; labels = [] }; history = false }))
    ∷ Got 1 contents.ServicesEnd
    ∷ Got 1 (contents.Status states.ServicesCreated 0)
    ∷ Judged states.ServicesCreated
    ∷ Entered states.CommunicationInitializing
    ∷ Put 1 (contents.Status states.CommunicationInitializing 0)
    ∷ Entered states.CommunicationInitialized
    ∷ Put 1 (contents.Status states.CommunicationInitialized 0)
    ∷ Got 1 (contents.Status states.CommunicationInitializing 0)
    ∷ Judged states.CommunicationInitializing
    ∷ Got 1 (contents.Status states.CommunicationInitialized 0)
    ∷ Judged states.CommunicationInitialized
    ∷ Entered states.ReadyToRun
    ∷ Put 1 (contents.Status states.ReadyToRun 0)
    ∷ Got 1 (contents.Status states.ReadyToRun 0)
    ∷ Judged states.ReadyToRun
    ∷ Got 1 (contents.Status states.Running 0)
    ∷ Entered states.Running
    ∷ Put 1 (contents.Status states.Running 0)
    ∷ Judged states.Running
    ∷ Put 1 (contents.NextStep 0 1000000)
    ∷ Got 1 (contents.NextStep 0 1000000)
    ∷ Got 1 (contents.NextStep 1000000 1000000)
    ∷ Begin 1 0
    ∷ Did 0 0 (Some (contents.Publish (head 0 0 1) (1 ∷ [])))
    ∷ Put 1 (contents.Publish (head 0 0 1) (1 ∷ []))
    ∷ End 1
    ∷ Put 1 (contents.NextStep 1000000 1000000)
    ∷ Got 1 (contents.NextStep 2000000 1000000)
    ∷ Begin 2 1000000
    ∷ Did 0 0 (Some (contents.Publish (head 0 1000000 2) (2 ∷ [])))
    ∷ Put 1 (contents.Publish (head 0 1000000 2) (2 ∷ []))
    ∷ End 2
    ∷ Put 1 (contents.NextStep 2000000 1000000)
    ∷ Entered states.Stopping
    ∷ Put 1 (contents.Status states.Stopping 0)
    ∷ Judged states.Stopping
    ∷ Entered states.Stopped
    ∷ Put 1 (contents.Status states.Stopped 0)
    ∷ Got 1 (contents.Status states.Stopping 0)
    ∷ Got 1 (contents.Status states.Stopped 0)
    ∷ Judged states.Stopped
    ∷ Got 1 (contents.Status states.ShuttingDown 0)
    ∷ Entered states.ShuttingDown
    ∷ Put 1 (contents.Status states.ShuttingDown 0)
    ∷ Judged states.ShuttingDown
    ∷ Got 1 (contents.Status states.Shutdown 0)
    ∷ Got 1 contents.Leave
    ∷ Entered states.Shutdown
    ∷ Put 1 (contents.Status states.Shutdown 0)
    ∷ Judged states.Shutdown
    ∷ Put 1 contents.Leave
    ∷ []
