-- A peer that has left: all that it put was got.
use Rattle.std.proofs.Common.{◌≡◌, ℕ, Bool, true, false, not, ◌&&◌, ◌||◌, IsTrue, List, [], ◌∷◌, ◌++◌, refl, sym, ◌∙◌, ap, append_assoc, append-nil, inl, inr, if◌then◌else◌}
use Rattle.std.specs.List.{list_any}
use Rattle.std.proofs.lemmas.Bool.{cases_Bool, or_left}
use Rattle.std.proofs.lemmas.List.Folds.{list_any-append}
use mathlib.Core.List.{IsPrefix}
use Rattle.sk_msg.specs.declared.content.Content.{Content}
use Rattle.sk_msg.specs.declared.content.Content.TheVariants as contents
use Rattle.sk_law.specs.declared.said.Said.{Said}
use Rattle.sk_law.specs.Order.{is_leave, is_hello, has_left, has_hello, said_of, may_say}

-- a list is cut at the first one that passes the test
pub found : {X : Type 0} (test : X → Bool) (xs : List X) → list_any test xs ≡ true → (before : List X) × (x : X) × (after : List X) × (xs ≡ before ++ x ∷ after) × (test x ≡ true)
found test [] e = absurd (cc)
found test (x ∷ xs) e = elim (cases_Bool (test x)) [
  | inl here ↦ ([], x, xs, refl, here)
  | inr other ↦ let f = found test xs (ap (λ b. b || list_any test xs) (sym other) ∙ e) in (x ∷ f.0, f.1, f.2, ap (λ l. x ∷ l) f.3, f.4)
]

leave_is : (m : Content) → is_leave m ≡ true → m ≡ contents.Leave
leave_is (contents.Hello name role address) h = absurd cc
leave_is contents.Leave h = refl
leave_is (contents.NextStep at size) h = absurd cc
leave_is (contents.ServiceAdd service) h = absurd cc
leave_is contents.ServicesEnd h = absurd cc
leave_is (contents.Status state until) h = absurd cc
leave_is (contents.Workflow required) h = absurd cc
leave_is contents.Abort h = absurd cc
leave_is (contents.Refuse reason) h = absurd cc
leave_is (contents.Can head' frame) h = absurd cc
leave_is (contents.Eth head' payload) h = absurd cc
leave_is (contents.Lin head' frame) h = absurd cc
leave_is (contents.LinResponse head' response) h = absurd cc
leave_is (contents.Publish head' payload) h = absurd cc
leave_is (contents.Call head' call payload) h = absurd cc
leave_is (contents.Reply head' client call payload) h = absurd cc

-- Leave is said behind a Hello alone
leave_late : (name : List ℕ) (s : Said) → IsTrue (may_say false name s contents.Leave) → s.hello ≡ true
unfolding may_say
leave_late name s h = by s.hello _ h
  where
    by : (b x : Bool) → (if b then x else false) ≡ true → b ≡ true
    by true x e = refl
    by false x e = absurd cc

-- and then nothing is said
left_silent : (name : List ℕ) (s : Said) (m : Content) → IsTrue (may_say false name s m) → s.hello ≡ true → s.left ≡ true → ⊥
unfolding may_say
left_silent name s m h hello left = by s.hello s.left _ _ h hello left
  where
    by : (a b x y : Bool) → (if a then not b && x else y) ≡ true → a ≡ true → b ≡ true → ⊥
    by true true x y e f g = absurd cc
    by true false x y e f g = absurd cc
    by false b x y e f g = absurd cc

-- what was put comes in the order of a link
abbrev pub InOrder : List ℕ → List Content → Type 0
InOrder name put = (front : List Content) (m : Content) (rest : List Content) → put ≡ front ++ m ∷ rest → IsTrue (may_say false name (said_of front) m)

-- what was got is a beginning of what was put, and has its Leave: so it is all
pub left_all : (name : List ℕ) (got put : List Content) → IsPrefix got put → has_left got ≡ true → InOrder name put → got ≡ put
left_all name got put p left order =
    let f = found is_leave got left in
    let shape : got ≡ f.0 ++ contents.Leave ∷ f.2 = f.3 ∙ ap (λ m. f.0 ++ m ∷ f.2) (leave_is f.1 f.4) in
    let early : has_hello f.0 ≡ true =
    leave_late name (said_of f.0) (order f.0 contents.Leave (f.2 ++ p.0) (sym p.1 ∙ (ap (λ l. l ++ p.0) shape ∙ append_assoc f.0 (contents.Leave ∷ f.2) p.0))) in
    let said : has_hello got ≡ true =
    ap has_hello shape ∙ (list_any-append is_hello f.0 (contents.Leave ∷ f.2) ∙ or_left (has_hello f.0) (list_any is_hello (contents.Leave ∷ f.2)) early) in
    none_more p.0 p.1 said
  where
    none_more : (rest : List Content) → got ++ rest ≡ put → has_hello got ≡ true → got ≡ put
    none_more [] e said = sym (append-nil got) ∙ e
    none_more (m ∷ rest) e said = absurd (left_silent name (said_of got) m (order got m rest (sym e)) said left)
