-- The wrong journals are wrong.
use Rattle.std.specs.Prelude.{◌≡◌, ◌≤◌, ◌+◌, refl, ℕ, not, ◌||◌, cond, IsTrue, ◌⊎◌, length, map, filter, slice_index_or, if◌then◌else◌, Bool, true, false, List, [], ◌∷◌, ◌++◌, take, Option, Some, None}
use Rattle.std.specs.List.{last_or}
use Rattle.std.proofs.Common.{ap, ◌∙◌, append_assoc, length-append, arith, inl, inr}
use Rattle.sk_msg.specs.declared.head.Head.{Head}
use Rattle.sk_msg.specs.Matching.{match_services, matching}
use Rattle.sk_law.specs.Readings.{head}
use Rattle.sk_msg.specs.declared.content.Content.TheVariants as contents
use Rattle.sk_msg.specs.declared.entry.Entry.{Entry}
use Rattle.sk_msg.specs.declared.entry.Entry.TheVariants.{Put, Hand, State as Entered, Begin, Done, End, Ask}
use Rattle.sk_msg.specs.declared.command.Command.TheVariants.{Pause}
use Rattle.sk_msg.specs.declared.command.Verdict.TheVariants.{Accepted, Refused}
use Rattle.sk_msg.specs.declared.state.State.TheVariants.{Running, Paused, Stopping}
use Rattle.sk_msg.specs.Edges.{led_to}
use Rattle.sk_law.specs.declared.setup.Setup.{Setup}
use Rattle.sk_law.specs.declared.memory.Memory.{Memory}
use Rattle.sk_law.specs.Past.{Past}
use Rattle.sk_law.specs.Rows.{Move, Step, row, may_begin}
use Rattle.sk_law.specs.Readings.{state_of}
use Rattle.sk_law_world.specs.Meets.{Meets, LawfulMeets, IsAskedFor, comes_besides}
use Rattle.sk_law_world.specs.Sent.{DoneIsSent}
use Rattle.sk_law_world.specs.Once.{HandedOnce}
use Rattle.sk_law_examples.specs.Examples.{alone, alone_journal, publisher, publisher_journal, subscriber, subscriber_journal, patient, patient_journal}
use Rattle.sk_law_examples.specs.Wrong.{refused_pause, stopped_early, kept_back, IsWrong, begun_front, begun_early, announced_early, sent_late, ended_early}
use Rattle.sk_msg.specs.declared.content.Content.{Content}
use Rattle.sk_msg.specs.declared.service.Service.{Service}
use Rattle.sk_law.specs.Links.{comes_in_order, others_below}
use Rattle.sk_msg.specs.Heads.{head_of}
use Rattle.sk_law.specs.Receivers.{receivers, handed_to, takers, admits, sender, is_over}
use Rattle.sk_law.specs.Safe.{hands}
use Rattle.sk_law.specs.declared.memory.ServiceState.TheVariants.{Subscriber as SubscriberAt}
use Rattle.sk_law_examples.specs.Wrong.{handed_twice}
use Rattle.sk_law_examples.proofs.Computes.{computes}

-- where the last entry of the front meets its rule in no memory, the front is wrong
wrong_at : LawfulMeets → (S : Setup) (before : List Entry) (e : Entry) → ((memory : Memory) → Meets S (record { journal = before; memory = memory }) e → ⊥) → IsWrong S (before ++ e ∷ [])
wrong_at meets S before e bad rest law =
    let at = meets S (record { journal = (before ++ e ∷ []) ++ rest; memory = law.memory }) law.made law.lawful before e rest (append_assoc before (e ∷ []) rest) in
    bad at.0 at.1

early : (memory : Memory) → may_begin subscriber (record { journal = begun_front; memory = memory }) ≡ false
unfolding computes
early memory = refl

pub begun_early_is_wrong : LawfulMeets → IsWrong subscriber begun_early
begun_early_is_wrong meets = wrong_at meets subscriber begun_front (Begin 2 1000000) (λ memory may. let yes = may.may in let no = early memory in cc)

pub announced_early_is_wrong : LawfulMeets → IsWrong subscriber announced_early
announced_early_is_wrong meets = wrong_at meets subscriber (take 29 subscriber_journal) (Put 0 (contents.NextStep 1000000 1000000)) (λ memory may. let no = may.2 in cc)

pub sent_late_is_wrong : LawfulMeets → IsWrong publisher sent_late
sent_late_is_wrong meets = wrong_at meets publisher (take 34 publisher_journal) (Put 1 (contents.Publish (head 0 0 1) (1 ∷ []))) (λ memory may. let no = may.1 in cc)

last_is : (es : List Entry) (e : Entry) (o : Option Entry) → last_or o (es ++ e ∷ []) ≡ Some e
last_is [] e o = refl
last_is (x ∷ es) e o = last_is es e (Some x)

pub ended_early_is_wrong : LawfulMeets → IsWrong patient ended_early
ended_early_is_wrong meets = wrong_at meets patient (take 15 patient_journal) (End 1)
    (λ memory may. let d = may.done refl in let last = ap (last_or None) d.1 ∙ last_is d.0 (Done 1) None in cc)

pauses : led_to (state_of (take 11 alone_journal)) Pause ≡ Some Paused
unfolding computes
pauses = refl

pub refused_pause_is_wrong : LawfulMeets → IsWrong alone refused_pause
refused_pause_is_wrong meets = wrong_at meets alone (take 11 alone_journal) (Ask Pause (Refused Running)) (λ memory may. let no = may.0 in let yes = pauses in cc)

-- a step comes next
steps : (memory : Memory) → row alone (record { journal = take 12 alone_journal; memory = memory }) ≡ Some Step
unfolding computes
steps memory = refl

not_besides : comes_besides Stopping ≡ false
unfolding computes
not_besides = refl

pub stopped_early_is_wrong : LawfulMeets → IsWrong alone stopped_early
stopped_early_is_wrong meets = wrong_at meets alone (take 12 alone_journal) (Entered Stopping) (λ memory may. no memory may.cause)
  where
    no : (memory : Memory) → IsTrue (comes_besides Stopping) ⊎ ((row alone (record { journal = take 12 alone_journal; memory = memory }) ≡ Some (Move Stopping)) ⊎ IsAskedFor (record { journal = take 12 alone_journal; memory = memory }) Stopping) → ⊥
    no memory (inl besides) = let b = not_besides in cc
    no memory (inr (inl by_row)) = let s = steps memory in cc
    no memory (inr (inr by)) = let last = ap (last_or None) by.is ∙ last_is by.before (Ask by.command Accepted) None in cc

-- ## A message that isn't sent

to_the_other : others_below publisher (take 30 publisher_journal) 2 ≡ 1 ∷ []
to_the_other = refl

pub kept_back_is_wrong : DoneIsSent → IsWrong publisher kept_back
kept_back_is_wrong sent rest law =
    let h = sent publisher (record { journal = kept_back ++ rest; memory = law.memory }) law.made law.lawful (take 30 publisher_journal) 0 0
    (contents.Publish (head 0 0 1) (1 ∷ [])) (End 1 ∷ rest) refl in
    let to : h.to ≡ 1 ∷ [] = h.all refl ∙ to_the_other in
    let put : End 1 ∷ rest ≡ Put 1 (contents.Publish (head 0 0 1) (1 ∷ [])) ∷ h.rest = h.is ∙ ap (λ ns. map (λ q. Put q (contents.Publish (head 0 0 1) (1 ∷ []))) ns ++ h.rest) to in
    cc

-- ## A message handed twice

one_less : {X : Type 0} (c : Bool) (x : X) (kept xs : List X) → length kept ≤ length xs → length (cond c (x ∷ kept) kept) ≤ length (x ∷ xs)
one_less true x kept xs h = omega arith
one_less false x kept xs h = omega arith

few : {X : Type 0} (test : X → Bool) (xs : List X) → length (filter test xs) ≤ length xs
few test [] = omega arith
few test (x ∷ xs) = one_less (test x) x (filter test xs) xs (few test xs)

-- at most one own service receives what isn't a Reply
most : (S : Setup) (at : Past) (p : ℕ) (m : Content) → (order over : Bool) → length (handed_to S at p m) ≤ length S.services → length (if over || not order then [] else handed_to S at p m) ≤ length S.services
most S at p m order over h = on (over || not order)
  where
    on : (c : Bool) → length (if c then [] else handed_to S at p m) ≤ length S.services
    on true = omega arith
    on false = h

ids : (services : List Service) → length (map (λ (s : Service). s.id) services) ≡ length services
ids [] = refl
ids (s ∷ services) = let h = ids services in omega arith

takers_few : (S : Setup) (at : Past) (m : Content) (other : Option Service) → length (takers S at m other) ≤ length S.services
takers_few S at m None = omega arith
takers_few S at m (Some other) =
    let a = ids (filter (λ s. admits m (slice_index_or at.memory.services s.id SubscriberAt)) (matching S.services other)) in
    let b = few (λ (s : Service). admits m (slice_index_or at.memory.services s.id SubscriberAt)) (matching S.services other) in
    let c = few (λ (s : Service). match_services s other) S.services in
    omega arith

pub receivers_few : (S : Setup) (at : Past) (p : ℕ) (front : Head) (payload : List ℕ) → length (receivers S at p (contents.Publish front payload)) ≤ length S.services
unfolding receivers
receivers_few S at p front payload =
    most S at p (contents.Publish front payload) (comes_in_order S at p (contents.Publish front payload)) (is_over (state_of at.journal))
    (takers_few S at (contents.Publish front payload) (sender S at p (head_of (contents.Publish front payload))))

pub handed_twice_is_wrong : HandedOnce → IsWrong subscriber handed_twice
handed_twice_is_wrong once rest law =
    let message : Content = contents.Publish (head 0 0 1) (1 ∷ []) in
    let h = once subscriber (record { journal = handed_twice ++ rest; memory = law.memory }) law.made law.lawful (take 31 subscriber_journal) 0 message
    (Hand 0 10 0 ∷ Hand 0 10 0 ∷ rest) refl in
    let two : length (hands (handed_twice ++ rest) 0 10) ≡ 2 + length (hands rest 0 10) = length-append (0 ∷ 0 ∷ []) (hands rest 0 10) in
    let all : length (hands (handed_twice ++ rest) 0 10) ≡ length (receivers subscriber h.at 0 message) = ap length h.once in
    let few' : length (receivers subscriber h.at 0 message) ≤ 1 = receivers_few subscriber h.at 0 (head 0 0 1) (1 ∷ []) in
    omega arith
