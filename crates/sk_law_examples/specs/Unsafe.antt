-- Journals of the subscriber that are not safe with the publisher's, written out.
use Rattle.std.specs.Prelude.{List, [], ◌∷◌, ◌++◌, take}
use Rattle.sk_msg.specs.declared.content.Content.TheVariants as contents
use Rattle.sk_msg.specs.declared.entry.Entry.{Entry}
use Rattle.sk_msg.specs.declared.entry.Entry.TheVariants.{Got, Begin, Hand}
use Rattle.sk_law.specs.declared.made.Made.{Made}
use Rattle.sk_law.specs.declared.memory.Memory.{Memory}
use Rattle.sk_law.specs.Readings.{put}
use Rattle.sk_law.specs.Safe.{IsSafeAt}
use Rattle.sk_law_examples.specs.Examples.{publisher_journal, subscriber, subscriber_journal}

-- it isn't safe, whatever is remembered and whatever the calls of the app are
abbrev pub IsUnsafe : List Entry → Type 0
IsUnsafe journal = (memory : Memory) (made : List Made) → IsSafeAt subscriber (record { journal = journal; memory = memory }) made 0 (put publisher_journal 1) → ⊥

-- the message of the first step is handed within the second
abbrev pub late_journal : List Entry
late_journal = take 32 subscriber_journal ++ (Got 0 (contents.NextStep 1000000 1000000) ∷ Begin 2 1000000 ∷ Hand 0 10 0 ∷ [])

-- it is handed twice
abbrev pub doubled_journal : List Entry
doubled_journal = take 33 subscriber_journal ++ (Hand 0 10 0 ∷ Got 0 (contents.NextStep 1000000 1000000) ∷ Begin 2 1000000 ∷ [])

-- the second step begins before it was announced
abbrev pub unannounced_journal : List Entry
unannounced_journal = take 33 subscriber_journal ++ (Begin 2 1000000 ∷ [])
