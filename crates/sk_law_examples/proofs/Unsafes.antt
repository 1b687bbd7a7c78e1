-- The journals that are not safe are refused.
use Rattle.std.specs.Prelude.{◌≡◌, ◌≤◌, refl, false, List, [], ◌∷◌, ◌++◌, take, length, Some, slice_get}
use Rattle.std.proofs.Common.{ap, sym, ◌∙◌, arith, inl, inr}
use Rattle.sk_law.specs.Readings.{head}
use Rattle.sk_msg.specs.declared.content.Content.{Content}
use Rattle.sk_msg.specs.declared.content.Content.TheVariants as contents
use Rattle.sk_msg.specs.declared.entry.Entry.{Entry}
use Rattle.sk_msg.specs.declared.entry.Entry.TheVariants.{Got, Hand}
use Rattle.sk_law.specs.declared.memory.Memory.{Memory}
use Rattle.sk_law.specs.Readings.{put}
use Rattle.sk_law.specs.Order.{has_left, announced_of}
use Rattle.sk_law.specs.Links.{from, has_announced}
use Rattle.sk_law.specs.Receivers.{receivers}
use Rattle.sk_law.specs.Safe.{hands, WasSentBefore, HasAnnounced, WasHanded}
use Rattle.sk_law_examples.specs.Examples.{publisher_journal, subscriber, subscriber_journal}
use Rattle.sk_law_examples.specs.Unsafe.{IsUnsafe, late_journal, doubled_journal, unannounced_journal}
use Rattle.sk_law_examples.proofs.Computes.{computes}
use Rattle.sk_law_examples.proofs.Wrongs.{receivers_few}

abbrev one : Content
one = contents.Publish (head 0 0 1) (1 ∷ [])

there : slice_get (put publisher_journal 1) 9 ≡ Some one
there = refl

sent : WasSentBefore 1000000 one
sent = (omega arith, omega arith)

pub late_is_refused : IsUnsafe late_journal
late_is_refused memory made safe =
    let h : WasHanded subscriber (record { journal = late_journal; memory = memory }) made (take 32 subscriber_journal ++ (Got 0 (contents.NextStep 1000000 1000000) ∷ [])) 0 9 one =
    safe.handed (take 32 subscriber_journal ++ (Got 0 (contents.NextStep 1000000 1000000) ∷ [])) (Hand 0 10 0 ∷ []) 2 1000000 9 one refl there sent in
    let e : 0 ≡ 1 = ap length h.early in absurd cc

pub doubled_is_refused : IsUnsafe doubled_journal
doubled_is_refused memory made safe =
    let before : List Entry = take 33 subscriber_journal ++ (Hand 0 10 0 ∷ Got 0 (contents.NextStep 1000000 1000000) ∷ []) in
    let h : WasHanded subscriber (record { journal = doubled_journal; memory = memory }) made before 0 9 one = safe.handed before [] 2 1000000 9 one refl there sent in
    let all : length (hands doubled_journal 0 10) ≡ length (receivers subscriber h.at 0 one) = ap length h.once in
    let two : length (hands doubled_journal 0 10) ≡ 2 = refl in
    let few : length (receivers subscriber h.at 0 one) ≤ 1 = receivers_few subscriber h.at 0 (head 0 0 1) (1 ∷ []) in
    omega arith

known : (memory : Memory) → (has_announced 1000000 (announced_of (from subscriber (record { journal = take 33 subscriber_journal; memory = memory }) 0)) ≡ false) ×
    (has_left (from subscriber (record { journal = take 33 subscriber_journal; memory = memory }) 0) ≡ false)
unfolding computes
known memory = (refl, refl)

pub unannounced_is_refused : IsUnsafe unannounced_journal
unannounced_is_refused memory made safe = on (safe.announced (take 33 subscriber_journal) [] 2 1000000 refl)
  where
    on : HasAnnounced subscriber (record { journal = take 33 subscriber_journal; memory = memory }) 0 1000000 → ⊥
    on (inl yet) = let k = sym yet ∙ (known memory).0 in absurd cc
    on (inr left) = let k = sym left ∙ (known memory).1 in absurd cc
