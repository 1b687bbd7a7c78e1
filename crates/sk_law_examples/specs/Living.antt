-- A lawful world, written out: A publishes in each of its steps, and B is handed it.
use Rattle.std.specs.Prelude.{◌≡◌, ℕ, true, false, List, [], ◌∷◌, map, take, Some, None}
use Rattle.sk_msg.specs.declared.content.Content.TheVariants.{NextStep}
use Rattle.sk_law.specs.World.{Member, IsWorld, AreFinished}
use Rattle.sk_law_world.specs.Heard.{AreAgreed}
use Rattle.sk_law.specs.Safe.{IsSafe}
use Rattle.sk_law_examples.specs.Examples.{publisher_journal, subscriber, subscriber_journal}
use Rattle.sk_law.specs.Past.{Past}
use Rattle.sk_law.specs.Links.{comes_in_order}

-- there is one: a finished one whose participants require the same names, with these journals; it is safe
abbrev pub WorldLives : Type 0
WorldLives = (members : List Member) × IsWorld ((65 ∷ []) ∷ (66 ∷ []) ∷ []) members × AreAgreed (Some ((65 ∷ []) ∷ (66 ∷ []) ∷ [])) members
    × (map (λ m. m.past.journal) members ≡ publisher_journal ∷ subscriber_journal ∷ []) × AreFinished members × IsSafe members

-- the subscriber after so many of its entries
abbrev pub subscriber_at : ℕ → Past
subscriber_at n = record {
  journal = take n subscriber_journal;
  memory = record { called = true; asked = false; pause = None; tools = []; services = []; ready_awaited = false };
}

-- the publisher's first NextStep is out of order before the subscriber's State(ReadyToRun), and in order behind it
abbrev pub NextStepWaits : Type 0
NextStepWaits =
    (comes_in_order subscriber (subscriber_at 19) 0 (NextStep 0 1000000) ≡ false)
    × (comes_in_order subscriber (subscriber_at 20) 0 (NextStep 0 1000000) ≡ true)
