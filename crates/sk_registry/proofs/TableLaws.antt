-- Laws of the table.
use Rattle.std.proofs.Common.{◌≡◌, ◌≢◌, ◌+◌, ◌∙◌, ℕ, Bool, true, false, cond, eqb, not, List, [], ◌∷◌, ◌++◌, length, filter, Some, None, refl, sym, ap, subst, inl, inr, arith, length-append}
use Rattle.std.specs.Prelude.{Contains, ◌||◌, count_by, if◌then◌else◌}
use Rattle.std.specs.List.{list_any, AllByRecursion, IsDistinct}
use Rattle.std.specs.Str.{bytes_eq}
use Rattle.std.specs.Cmp.Lexicographic.{nat_list_eq_equiv}
use Rattle.std.proofs.lemmas.Bool.{or_parts, or_from, or_left, or_right, false_from_ne_true, eqb-false}
use Rattle.std.proofs.lemmas.List.{map-append, append-nil}
use Rattle.std.proofs.lemmas.List.Elements.{filter-append}
use Rattle.std.proofs.lemmas.List.Sums.{sum_by-cons}
use Rattle.std.proofs.lemmas.Map.Keys.{IsDistinct-push, IsDistinct-head, IsDistinct-tail, IsDistinct-cons}
use Rattle.std.proofs.lemmas.Slice.Eq.{bytes_eq-Decides}
use Rattle.sk_registry.specs.declared.joined.Joined.{Joined}
use Rattle.sk_registry.specs.declared.refused.JoinRefused.TheVariants.{NameTaken, Full}
use Rattle.sk_registry.specs.Table.{is_named, names, has_name, without, refusal, IsTable}
use Rattle.sk_registry.proofs.Members.{none_in_nothing, first_or_later, length_filter, filter_all}

pub same_bytes : (a b : List ℕ) → bytes_eq a b ≡ true → a ≡ b
same_bytes a b e = (bytes_eq-Decides a b).0 e

pub own_bytes : (a : List ℕ) → bytes_eq a a ≡ true
own_bytes a = (bytes_eq-Decides a a).1 refl

-- nothing is against a name that isn't joined where there is room
pub record IsFree (table : List Joined) (name : List ℕ) : Type 0 where
  pub fresh : has_name table name ≡ false
  pub room : eqb (length table) 36 ≡ false

pub free : (table : List Joined) (name : List ℕ) → refusal table name ≡ None → IsFree table name
free table name accepted = split (has_name table name) (eqb (length table) 36) refl refl accepted
  where
    split : (taken full : Bool) → has_name table name ≡ taken → eqb (length table) 36 ≡ full
        → (if taken then Some NameTaken else if full then Some Full else None) ≡ None → IsFree table name
    split true full t f e = absurd cc
    split false true t f e = absurd cc
    split false false t f e = record { fresh = t; room = f }

any_name : (name : List ℕ) (table : List Joined) → list_any (bytes_eq name) (names table) ≡ has_name table name
any_name name [] = refl
any_name name (j ∷ table) = ap (λ b. bytes_eq name j.name || b) (any_name name table)

pub table-push : (table : List Joined) (who : Joined) → IsTable table → IsFree table who.name → IsTable (table ++ who ∷ [])
table-push table who kept is_free = record {
  distinct = rw (map-append (λ (j : Joined). j.name) table (who ∷ []))
      (IsDistinct-push nat_list_eq_equiv (names table) who.name kept.distinct (any_name who.name table ∙ is_free.fresh));
  few =
      let few = kept.few in
      let room = eqb-false (length table) 36 is_free.room in
      omega (arith, length-append table (who ∷ []));
}

-- nobody of these has this name
abbrev pub NobodyIs : List ℕ → List Joined → Type 0
NobodyIs name table = AllByRecursion (λ other. bytes_eq name other ≡ false) (names table)

others-filter : (test : Joined → Bool) (name : List ℕ) (table : List Joined) → NobodyIs name table
    → NobodyIs name (filter test table)
others-filter test name [] others = tt
others-filter test name (j ∷ table) others = split (test j) (others-filter test name table others.1)
  where
    split : (b : Bool) → NobodyIs name (filter test table)
        → NobodyIs name (cond b (j ∷ filter test table) (filter test table))
    split true rest = (others.0, rest)
    split false rest = rest

distinct-filter : (test : Joined → Bool) (table : List Joined) → IsDistinct bytes_eq (names table) → IsDistinct bytes_eq (names (filter test table))
distinct-filter test [] distinct = distinct
distinct-filter test (j ∷ table) distinct =
    split (test j) (distinct-filter test table (IsDistinct-tail bytes_eq j.name (names table) distinct))
  where
    split : (b : Bool) → IsDistinct bytes_eq (names (filter test table)) → IsDistinct bytes_eq (names (cond b (j ∷ filter test table) (filter test table)))
    split true rest = IsDistinct-cons bytes_eq j.name (names (filter test table)) (others-filter test j.name table (IsDistinct-head bytes_eq j.name (names table) distinct)) rest
    split false rest = rest

pub table-without : (name : List ℕ) (table : List Joined) → IsTable table → IsTable (without name table)
table-without name table kept = record {
  distinct = distinct-filter (λ j. not (is_named name j)) table kept.distinct;
  few = let few = kept.few in omega (arith, length_filter (λ (j : Joined). not (is_named name j)) table);
}

-- ## One of a name

count-nobody : (name : List ℕ) (table : List Joined) → NobodyIs name table → count_by (is_named name) table ≡ 0
count-nobody name [] others = refl
count-nobody name (j ∷ table) others = rw (others.0, count-nobody name table others.1) refl

pub has-member : (table : List Joined) (who : Joined) → Contains table who → has_name table who.name ≡ true
has-member [] who here = absurd (none_in_nothing who here)
has-member (j ∷ table) who here = elim (first_or_later j table who here) [
  | inl first ↦ or_left _ _ (ap (λ (k : Joined). bytes_eq who.name k.name) first ∙ own_bytes who.name)
  | inr later ↦ or_right _ _ (has-member table who later)
]

pub count-one : (table : List Joined) (name : List ℕ) → IsDistinct bytes_eq (names table) → has_name table name ≡ true → count_by (is_named name) table ≡ 1
count-one [] name distinct has = absurd cc
count-one (j ∷ table) name distinct has =
    sum_by-cons (λ (k : Joined). cond (is_named name k) 1 0) j table
    ∙ split (bytes_eq name j.name) refl has (count-one table name (IsDistinct-tail bytes_eq j.name (names table) distinct))
  where
    split : (b : Bool) → bytes_eq name j.name ≡ b → (b || has_name table name) ≡ true → (has_name table name ≡ true → count_by (is_named name) table ≡ 1)
        → cond b 1 0 + count_by (is_named name) table ≡ 1
    split true is h later =
        let others = IsDistinct-head bytes_eq j.name (names table) distinct in
        ap (λ n. 1 + n) (count-nobody name table (subst (λ (n : List ℕ). NobodyIs n table) (sym (same_bytes name j.name is)) others))
    split false is h later = ap (λ n. 0 + n) (later h)

-- ## Who leaves

pub gone : (table : List Joined) (name : List ℕ) → has_name (without name table) name ≡ false
gone [] name = refl
gone (j ∷ table) name = split (bytes_eq name j.name) refl (gone table name)
  where
    split : (b : Bool) → bytes_eq name j.name ≡ b → has_name (without name table) name ≡ false → has_name (cond (not b) (j ∷ without name table) (without name table)) name ≡ false
    split true is rest = rest
    split false is rest = or_from _ _ is rest

pub others : (table : List Joined) (name other : List ℕ) → name ≢ other → has_name (without name table) other ≡ has_name table other
others [] name other apart = refl
others (j ∷ table) name other apart = split (bytes_eq name j.name) refl (others table name other apart)
  where
    split : (b : Bool) → bytes_eq name j.name ≡ b → has_name (without name table) other ≡ has_name table other
        → has_name (cond (not b) (j ∷ without name table) (without name table)) other ≡ (bytes_eq other j.name || has_name table other)
    split false is rest = ap (λ b. bytes_eq other j.name || b) rest
    split true is rest =
        let not_other : bytes_eq other j.name ≡ false = false_from_ne_true _ (λ same. apart (same_bytes name j.name is ∙ sym (same_bytes other j.name same))) in
        rest ∙ sym (ap (λ b. b || has_name table other) not_other)

none_called : (name : List ℕ) (table : List Joined) → has_name table name ≡ false → AllByRecursion (λ j. not (is_named name j) ≡ true) table
none_called name [] fresh = tt
none_called name (j ∷ table) fresh = let parts = or_parts _ _ fresh in (ap not parts.0, none_called name table parts.1)

-- where nobody has the name, all stay
pub without-absent : (name : List ℕ) (table : List Joined) → has_name table name ≡ false → without name table ≡ table
without-absent name table fresh = filter_all (λ j. not (is_named name j)) table (none_called name table fresh)

pub has_name-nobody : (name : List ℕ) (table : List Joined) → NobodyIs name table → has_name table name ≡ false
has_name-nobody name [] others = refl
has_name-nobody name (j ∷ table) others = rw (others.0, has_name-nobody name table others.1) refl

-- who joined last is taken out again, and nobody else
pub without-last : (table : List Joined) (who : Joined) → has_name table who.name ≡ false → without who.name (table ++ who ∷ []) ≡ table
without-last table who fresh =
    let rest = without-absent who.name table fresh in
    let himself : without who.name (who ∷ []) ≡ [] = rw (own_bytes who.name) refl in
    filter-append (λ j. not (is_named who.name j)) table (who ∷ []) ∙ (λ i. rest i ++ himself i) ∙ append-nil table
