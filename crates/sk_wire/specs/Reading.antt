-- What reading at the front of bytes answers: a value and the bytes behind it, or the first fault.
use Rattle.std.specs.Prelude.{◌≡◌, ℕ, List, length, Result, Ok, Err}
use Rattle.sk_wire.specs.declared.fault.What.TheVariants.{Short, BadField}
use Rattle.sk_wire.specs.declared.fault.BodyFault.{BodyFault}
use Rattle.sk_wire.specs.declared.fault.ReadError.{ReadError}
use Rattle.sk_wire.specs.declared.fault.ReadError.TheVariants as errors

abbrev pub Reading : Type 0 → Type 0
Reading A = Result (A × List ℕ) BodyFault

-- and then: a fault stays
infixl 10 ◌>>=◌
abbrev pub ◌>>=◌ : {A B : Type 0} → Result A BodyFault → (A → Result B BodyFault) → Result B BodyFault
(Ok x) >>= f = f x
(Err e) >>= f = Err e

-- a fault at the first of these bytes, which are what the body has from there on
abbrev pub cut : List ℕ → BodyFault
cut bytes = record { left = length bytes; what = Short }

abbrev pub bad : List ℕ → BodyFault
bad bytes = record { left = length bytes; what = BadField }

-- a call answers what reading gives, seen by view, unless memory ran out
abbrev pub Fails : {Y : Type 0} → ReadError → Result Y BodyFault → Type 0
Fails errors.WantOfMemory reading = Unit {0}
Fails (errors.Fault f) reading = reading ≡ Err f

abbrev pub Gives : {X Y : Type 0} → (X → Y) → Result X ReadError → Result Y BodyFault → Type 0
Gives view (Ok x) reading = reading ≡ Ok (view x)
Gives view (Err e) reading = Fails e reading
