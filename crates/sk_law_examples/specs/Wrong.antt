-- Journals that aren't lawful, written out. Each is the front of a lawful one, with one entry more that is wrong there.
use Rattle.std.specs.Prelude.{List, [], ◌∷◌, ◌++◌, take}
use Rattle.sk_law.specs.Readings.{head}
use Rattle.sk_msg.specs.declared.content.Content.TheVariants as contents
use Rattle.sk_msg.specs.declared.entry.Entry.{Entry}
use Rattle.sk_msg.specs.declared.command.Command.TheVariants.{Pause}
use Rattle.sk_msg.specs.declared.command.Verdict.TheVariants.{Refused}
use Rattle.sk_msg.specs.declared.entry.Entry.TheVariants.{Got, Put, Hand, State as Entered, Begin, End, Ask}
use Rattle.sk_msg.specs.declared.state.State.TheVariants.{Running, Stopping}
use Rattle.sk_law.specs.declared.setup.Setup.{Setup}
use Rattle.sk_law.specs.Lawful.{IsLawful}
use Rattle.sk_law_examples.specs.Examples.{alone_journal, publisher_journal, subscriber_journal, patient_journal}

-- no lawful journal begins so
abbrev pub IsWrong : Setup → List Entry → Type 0
IsWrong S front = (rest : List Entry) → IsLawful S (front ++ rest) → ⊥

-- a step begins at 1000000 where the other has announced 999999
abbrev pub begun_front : List Entry
begun_front = take 33 subscriber_journal ++ Got 0 (contents.NextStep 999999 1000000) ∷ []

-- and the step
abbrev pub begun_early : List Entry
begun_early = begun_front ++ Begin 2 1000000 ∷ []

-- the next step is announced within a step
abbrev pub announced_early : List Entry
announced_early = take 29 subscriber_journal ++ Put 0 (contents.NextStep 1000000 1000000) ∷ []

-- a message of the step is put after the step
abbrev pub sent_late : List Entry
sent_late = take 34 publisher_journal ++ Put 1 (contents.Publish (head 0 0 1) (1 ∷ [])) ∷ []

-- a message is handed twice to one service
abbrev pub handed_twice : List Entry
handed_twice = take 33 subscriber_journal ++ Hand 0 10 0 ∷ []

-- an asynchronous step ends without a completion
abbrev pub ended_early : List Entry
ended_early = take 15 patient_journal ++ End 1 ∷ []

-- a Pause is refused in Running
abbrev pub refused_pause : List Entry
refused_pause = take 11 alone_journal ++ Ask Pause (Refused Running) ∷ []

-- Stopping is entered below the limit, and nobody asked for Stop
abbrev pub stopped_early : List Entry
stopped_early = take 12 alone_journal ++ Entered Stopping ∷ []

-- a step ends directly behind a Did with a message, which isn't put to the peer
abbrev pub kept_back : List Entry
kept_back = take 31 publisher_journal ++ End 1 ∷ []
