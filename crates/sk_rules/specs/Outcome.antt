-- What a reading comes to: what was read, or the first fault. A definition of a reading is a block of readings, one
-- behind the other, as they are checked.
use Rattle.std.specs.Prelude.{◌≡◌, ◌⊎◌, List, Option, Some, None, Result, Ok, Err, MatchResult, ⊤, if◌then◌else◌, Bool}
use Rattle.sk_rules.specs.declared.fault.Rule.{Rule}
use Rattle.sk_rules.specs.declared.fault.ScenarioFault.{ScenarioFault}
use Rattle.sk_rules.specs.declared.fault.ScenarioFault.TheVariants.{Refused, WantOfMemory}
use Rattle.std.specs.Prelude.{ℕ}

-- the first reading, and then the next one, which may look at what was read
infixl 10 ◌>>=◌
abbrev pub ◌>>=◌ : {A B : Type 0} → Result A ScenarioFault → (A → Result B ScenarioFault) → Result B ScenarioFault
Ok value >>= next = next value
Err fault >>= next = Err fault

-- the first reading, and then the other one
infixl 10 ◌>>◌
abbrev pub ◌>>◌ : {A B : Type 0} → Result A ScenarioFault → Result B ScenarioFault → Result B ScenarioFault
Ok value >> next = next
Err fault >> next = Err fault

-- this fault, or else this value
abbrev pub checked : {A : Type 0} → Option ScenarioFault → A → Result A ScenarioFault
checked None value = Ok value
checked (Some fault) value = Err fault

-- that nothing is wrong
abbrev pub fine : Option ScenarioFault → Result ⊤ ScenarioFault
fine None = Ok tt
fine (Some fault) = Err fault

-- what must hold of what stands at this path
abbrev pub must : List ℕ → Rule → Bool → Result ⊤ ScenarioFault
must path rule holds = if holds then Ok tt else Err (Refused path rule)

-- what must be found for what stands at this path
abbrev pub found : {A : Type 0} → List ℕ → Rule → Option A → Result A ScenarioFault
found path rule None = Err (Refused path rule)
found path rule (Some value) = Ok value

-- what a reader answers of what this is: memory ran out, or just this
abbrev pub Answers : {A : Type 0} → Result A ScenarioFault → Result A ScenarioFault → Type 0
Answers meant result = MatchResult result (λ value. meant ≡ Ok value) (λ fault. (fault ≡ WantOfMemory) ⊎ (meant ≡ Err fault))

-- the same where what is answered says this
abbrev pub AnswersAs : {A B : Type 0} → (B → A) → Result A ScenarioFault → Result B ScenarioFault → Type 0
AnswersAs says meant result = MatchResult result (λ value. meant ≡ Ok (says value)) (λ fault. (fault ≡ WantOfMemory) ⊎ (meant ≡ Err fault))
