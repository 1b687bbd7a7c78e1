-- Tests of the items of a list.
use Rattle.std.specs.Prelude.{Bool, true, ◌&&◌, List, [], ◌∷◌, ◌++◌}

-- each value of a field's type
abbrev pub any : {A : Type 0} → A → Bool
any x = true

-- each item passes its test, which may look at the items before it
abbrev pub each_after : {A : Type 0} → (List A → A → Bool) → List A → List A → Bool
each_after test before [] = true
each_after test before (x ∷ xs) = test before x && each_after test (before ++ x ∷ []) xs
