-- The lawful world of the publisher and the subscriber.
use Rattle.std.specs.Prelude.{◌≡◌, ◌≢◌, refl, ℕ, zero, suc, true, List, [], ◌∷◌, length, drop, Some, slice_get}
use Rattle.std.proofs.Common.{ap, sym, ◌∙◌, subst, arith}
use Rattle.sk_msg.specs.declared.service.Service.{Service}
use Rattle.sk_msg.specs.Rules.{is_step_size, is_new_name}
use Rattle.sk_msg.specs.declared.entry.Entry.{Entry}
use Rattle.sk_law.specs.declared.setup.Setup.{Setup}
use Rattle.sk_law.specs.Readings.{got, put}
use Rattle.sk_law.specs.Lawful.{Lawful, IsLawful}
use Rattle.sk_law.specs.World.{Member, IsWorld, AreFinished}
use mathlib.Core.List.{IsPrefix}
use Rattle.sk_law_world.specs.Heard.{AreAgreed}
use Rattle.sk_law.specs.Setups.{IsSetup}
use Rattle.sk_law_examples.specs.Living.{WorldLives, NextStepWaits}
use Rattle.sk_law_examples.specs.Examples.{publisher, publisher_journal, subscriber, subscriber_journal}
use Rattle.sk_law_world.specs.Safety.{WorldIsSafe}
use Rattle.sk_law_examples.proofs.Computes.{computes}
use Rattle.sk_law_examples.proofs.Lawfulness.{publisher_is_lawful, subscriber_is_lawful}

member_of : (S : Setup) (journal : List Entry) → IsLawful S journal → Member
member_of S journal l = record { setup = S; past = record { journal = journal; memory = l.memory }; made = l.made }

-- what holds of the one at 0 and the other at 1 holds of each
two : (P : ℕ → Member → Type 0) (a b : Member) → P 0 a → P 1 b → (p : ℕ) (m : Member) → slice_get (a ∷ b ∷ []) p ≡ Some m → P p m
two P a b x y zero m e = subst (P 0) (let s : a ≡ m = cc in s) x
two P a b x y (suc zero) m e = subst (P 1) (let s : b ≡ m = cc in s) y
two P a b x y (suc (suc p)) m e = absurd cc

numbered_one : (one : Service) → one.id ≡ 0 → (i : ℕ) (s : Service) → slice_get (one ∷ []) i ≡ Some s → s.id ≡ i
numbered_one one h zero s e = let t : one ≡ s = cc in ap (λ (x : Service). x.id) (sym t) ∙ h
numbered_one one h (suc i) s e = absurd cc

publisher_may : IsSetup publisher
unfolding is_step_size is_new_name
publisher_may = record { within = omega arith; few = omega arith; named = refl; numbered = numbered_one _ refl; sized = refl; distinct = refl }

subscriber_may : IsSetup subscriber
unfolding is_step_size is_new_name
subscriber_may = record { within = omega arith; few = omega arith; named = refl; numbered = numbered_one _ refl; sized = refl; distinct = refl }

module _ (la : IsLawful publisher publisher_journal) (lb : IsLawful subscriber subscriber_journal) where
  a : Member
  a = record { setup = publisher; past = record { journal = publisher_journal; memory = la.memory }; made = la.made }

  b : Member
  b = record { setup = subscriber; past = record { journal = subscriber_journal; memory = lb.memory }; made = lb.made }

  linked : (p q : ℕ) (sender receiver : Member) → slice_get (a ∷ b ∷ []) p ≡ Some sender → slice_get (a ∷ b ∷ []) q ≡ Some receiver → p ≢ q → IsPrefix (got receiver.past.journal p) (put sender.past.journal q)
  unfolding a b
  linked p q sender receiver sp sq apart =
      two (λ p sender. (q : ℕ) (receiver : Member) → slice_get (a ∷ b ∷ []) q ≡ Some receiver → p ≢ q → IsPrefix (got receiver.past.journal p) (put sender.past.journal q)) a b
      (λ q receiver sq. two (λ q receiver. 0 ≢ q → IsPrefix (got receiver.past.journal 0) (put publisher_journal q)) a b (λ apart. absurd (apart refl)) (λ apart. (drop (length (got subscriber_journal 0)) (put publisher_journal 1), refl)) q receiver sq)
      (λ q receiver sq. two (λ q receiver. 1 ≢ q → IsPrefix (got receiver.past.journal 1) (put subscriber_journal q)) a b (λ apart. (drop (length (got publisher_journal 1)) (put subscriber_journal 0), refl)) (λ apart. absurd (apart refl)) q receiver sq)
      p sender sp q receiver sq apart

  finished : AreFinished (a ∷ b ∷ [])
  unfolding a b computes
  finished = refl

  world : IsWorld ((65 ∷ []) ∷ (66 ∷ []) ∷ []) (a ∷ b ∷ [])
  unfolding a b
  world = record {
    sorted = refl;
    all = refl;
    numbered = λ p m e. two (λ p m. m.setup.number ≡ p) a b refl refl p m e;
    setups = λ p m e. two (λ p m. IsSetup m.setup) a b publisher_may subscriber_may p m e;
    lawful = λ p m e. two (λ p m. Lawful m.setup m.past m.made) a b la.lawful lb.lawful p m e;
    linked = linked;
  }

  agreed : AreAgreed (Some ((65 ∷ []) ∷ (66 ∷ []) ∷ [])) (a ∷ b ∷ [])
  unfolding a b
  agreed = record {
    same = λ p m e. two (λ p m. m.setup.coordinated ≡ true → m.setup.required ≡ Some ((65 ∷ []) ∷ (66 ∷ []) ∷ [])) a b (λ c. refl) (λ c. refl) p m e;
    alone = λ p m e c none. absurd cc;
  }

  pub lives_by : WorldIsSafe → WorldLives
  unfolding a b
  lives_by safe = (a ∷ b ∷ [], world, agreed, refl, finished, safe ((65 ∷ []) ∷ (66 ∷ []) ∷ []) (a ∷ b ∷ []) world)

pub lives : WorldIsSafe → WorldLives
lives safe = lives_by publisher_is_lawful subscriber_is_lawful safe

pub waits : NextStepWaits
unfolding computes
waits = (refl, refl)
