-- What a block of readings came to, taken apart.
use Rattle.std.proofs.Common.{◌≡◌, ℕ, Bool, true, false, List, Option, Some, None, Ok, Err, refl}
use Rattle.std.specs.Prelude.{Result, ⊤}
use Rattle.sk_rules.specs.Outcome.{◌>>=◌, ◌>>◌, checked, must, found}
use Rattle.sk_rules.specs.declared.fault.Rule.{Rule}
use Rattle.sk_rules.specs.declared.fault.ScenarioFault.{ScenarioFault}

-- both readings came to something
pub then_ok : {A B P : Type 0} (r : Result A ScenarioFault) (next : A → Result B ScenarioFault) (y : B) → (r >>= next) ≡ Ok y → ((x : A) → r ≡ Ok x → next x ≡ Ok y → P) → P
then_ok (Ok x) next y e k = k x refl e
then_ok (Err fault) next y e k = absurd cc

pub after_ok : {A B P : Type 0} (r : Result A ScenarioFault) (next : Result B ScenarioFault) (y : B) → (r >> next) ≡ Ok y → ((x : A) → r ≡ Ok x → next ≡ Ok y → P) → P
after_ok (Ok x) next y e k = k x refl e
after_ok (Err fault) next y e k = absurd cc

pub checked_ok : {A : Type 0} (fault : Option ScenarioFault) (value x : A) → checked fault value ≡ Ok x → (fault ≡ None) × (value ≡ x)
checked_ok None value x e = (refl, cc)
checked_ok (Some fault) value x e = absurd cc

pub found_ok : {A : Type 0} (path : List ℕ) (rule : Rule) (o : Option A) (x : A) → found path rule o ≡ Ok x → o ≡ Some x
found_ok path rule None x e = absurd cc
found_ok path rule (Some y) x e = cc

pub must_ok : (path : List ℕ) (rule : Rule) (holds : Bool) (x : ⊤) → must path rule holds ≡ Ok x → holds ≡ true
must_ok path rule true x e = refl
must_ok path rule false x e = absurd cc

pub ok_is : {A : Type 0} (x y : A) → ◌≡◌ {A = Result A ScenarioFault} (Ok x) (Ok y) → x ≡ y
ok_is x y e = cc
