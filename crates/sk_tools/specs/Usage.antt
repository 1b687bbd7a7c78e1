-- What is answered to words without a reading.
use Rattle.std.specs.Prelude.{◌≡◌, ◌⊎◌, ℕ, Option, None}
use Rattle.sk_base.specs.declared.status.ExitStatus.{ExitStatus}
use Rattle.sk_base.specs.declared.status.ExitStatus.TheVariants as exit
use Rattle.sk_tools.specs.declared.words.Refused.{Refused}
use Rattle.sk_tools.specs.declared.words.Refused.TheVariants.{Words, Usage, WantOfMemory}

-- the words have no reading, unless memory ran out
abbrev pub IsRefusalOf : {A : Type 0} → Option A → Refused → Type 0
IsRefusalOf reading (Words text) = reading ≡ None
IsRefusalOf reading Usage = reading ≡ None
IsRefusalOf reading WantOfMemory = Unit {0}

abbrev pub ends_refused : Refused → ExitStatus
ends_refused (Words text) = exit.Usage
ends_refused Usage = exit.Usage
ends_refused WantOfMemory = exit.OutOfMemory

-- status 2 comes exactly where the words have no reading, unless memory ran out
abbrev pub IsUsage : {A : Type 0} → Option A → ℕ → Type 0
IsUsage reading answer = (answer ≡ 2 → reading ≡ None) × (reading ≡ None → (answer ≡ 2) ⊎ (answer ≡ 5))
