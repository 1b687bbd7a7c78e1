-- What a table says of each name.
use Rattle.std.proofs.Common.{◌≡◌, ℕ, ◌<◌, Bool, true, false, cond, List, [], ◌∷◌, ◌++◌, length, get_or, set, Some, None, refl, sym, ap, ◌∙◌, arith, suc, zero}
use Rattle.std.specs.Prelude.{position, nat_lt}
use Rattle.std.specs.List.{position_or_len}
use Rattle.std.specs.Str.{bytes_eq}
use Rattle.std.proofs.lemmas.Slice.Eq.{bytes_eq-Decides}
use Rattle.std.proofs.lemmas.Bool.Decides.{nat_tests}
use Rattle.std.proofs.lemmas.List.Quantifiers.{position-Some}
use Rattle.std.proofs.lemmas.List.Sums.{fails_before_first}
use Rattle.sk_system.specs.declared.table.Seen.{Seen}
use Rattle.sk_system.specs.declared.table.TableEntry.{TableEntry}
use Rattle.sk_system.specs.Table.{unseen, seen_of, put}

abbrev is_named : List ℕ → TableEntry → Bool
is_named name entry = bytes_eq entry.name name

-- ## Where the name stands

seen_of-at : (name : List ℕ) (table : List TableEntry) (i : ℕ) (d : TableEntry) → i < length table → is_named name (get_or table i d) ≡ true
    → ((k : ℕ) → k < i → is_named name (get_or table k d) ≡ false) → seen_of table name ≡ (get_or table i d).seen
seen_of-at name [] i d within here before = absurd (omega arith)
seen_of-at name (entry ∷ table) zero d within here before =
    let is : bytes_eq entry.name name ≡ true = here in
    rw is refl
seen_of-at name (entry ∷ table) (suc i) d within here before =
    let other : bytes_eq entry.name name ≡ false = before 0 (omega arith) in
    rw other (seen_of-at name table i d (omega arith) here (λ k below. before (suc k) (omega arith)))

put-at : (name : List ℕ) (seen : Seen) (table : List TableEntry) (i : ℕ) (d : TableEntry) → i < length table → is_named name (get_or table i d) ≡ true
    → ((k : ℕ) → k < i → is_named name (get_or table k d) ≡ false) → put name seen table ≡ set table i (record (get_or table i d) { seen = seen })
put-at name seen [] i d within here before = absurd (omega arith)
put-at name seen (entry ∷ table) zero d within here before =
    let is : bytes_eq entry.name name ≡ true = here in
    rw is refl
put-at name seen (entry ∷ table) (suc i) d within here before =
    let other : bytes_eq entry.name name ≡ false = before 0 (omega arith) in
    rw other (ap (λ rest. entry ∷ rest) (put-at name seen table i d (omega arith) here (λ k below. before (suc k) (omega arith))))

pub seen_of-found : (name : List ℕ) (table : List TableEntry) (i : ℕ) (d : TableEntry) → position (λ entry. bytes_eq entry.name name) table ≡ Some i
    → seen_of table name ≡ (get_or table i d).seen
seen_of-found name table i d found =
    let at = position-Some (is_named name) table i d found in
    seen_of-at name table i d at.0 at.1 at.2

pub put-found : (name : List ℕ) (seen : Seen) (table : List TableEntry) (i : ℕ) (d : TableEntry) → position (λ entry. bytes_eq entry.name name) table ≡ Some i
    → put name seen table ≡ set table i (record (get_or table i d) { seen = seen })
put-found name seen table i d found =
    let at = position-Some (is_named name) table i d found in
    put-at name seen table i d at.0 at.1 at.2

-- ## Where it doesn't stand

seen_of-nowhere : (name : List ℕ) (table : List TableEntry) (d : TableEntry) → ((k : ℕ) → k < length table → is_named name (get_or table k d) ≡ false) → seen_of table name ≡ unseen
seen_of-nowhere name [] d none = refl
seen_of-nowhere name (entry ∷ table) d none =
    let other : bytes_eq entry.name name ≡ false = none 0 (omega arith) in
    rw other (seen_of-nowhere name table d (λ k below. none (suc k) (omega arith)))

put-nowhere : (name : List ℕ) (seen : Seen) (table : List TableEntry) (d : TableEntry) → ((k : ℕ) → k < length table → is_named name (get_or table k d) ≡ false)
    → put name seen table ≡ table ++ record { name = name; seen = seen } ∷ []
put-nowhere name seen [] d none = refl
put-nowhere name seen (entry ∷ table) d none =
    let other : bytes_eq entry.name name ≡ false = none 0 (omega arith) in
    rw other (ap (λ rest. entry ∷ rest) (put-nowhere name seen table d (λ k below. none (suc k) (omega arith))))

nowhere : (name : List ℕ) (table : List TableEntry) (d : TableEntry) → position (λ entry. bytes_eq entry.name name) table ≡ None
    → (k : ℕ) → k < length table → is_named name (get_or table k d) ≡ false
nowhere name table d none k within = split (nat_lt (position_or_len (is_named name) table) (length table)) refl
  where
    split : (found : Bool) → nat_lt (position_or_len (is_named name) table) (length table) ≡ found → is_named name (get_or table k d) ≡ false
    split true e = let some = rw e at none in absurd cc
    split false e = fails_before_first (is_named name) table k d (grind (arith, nat_tests))

pub seen_of-none : (name : List ℕ) (table : List TableEntry) → position (λ entry. bytes_eq entry.name name) table ≡ None → seen_of table name ≡ unseen
seen_of-none name table none = let d : TableEntry = record { name = []; seen = unseen } in seen_of-nowhere name table d (nowhere name table d none)

pub put-none : (name : List ℕ) (seen : Seen) (table : List TableEntry) → position (λ entry. bytes_eq entry.name name) table ≡ None
    → put name seen table ≡ table ++ record { name = name; seen = seen } ∷ []
put-none name seen table none = let d : TableEntry = record { name = []; seen = unseen } in put-nowhere name seen table d (nowhere name table d none)

-- ## One more thing seen

-- of its name that was seen, and of every other name what was seen before
pub seen_of-put : (name : List ℕ) (seen : Seen) (table : List TableEntry) (other : List ℕ)
    → seen_of (put name seen table) other ≡ cond (bytes_eq name other) seen (seen_of table other)
seen_of-put name seen [] other = refl
seen_of-put name seen (entry ∷ table) other =
    split (bytes_eq entry.name name) (bytes_eq entry.name other) (bytes_eq name other) (put name seen table) (seen_of-put name seen table other) refl refl refl
  where
    split : (a b c : Bool) (rest : List TableEntry) → seen_of rest other ≡ cond (bytes_eq name other) seen (seen_of table other)
        → bytes_eq entry.name name ≡ a → bytes_eq entry.name other ≡ b → bytes_eq name other ≡ c
        → seen_of (cond a (record entry { seen = seen } ∷ table) (entry ∷ rest)) other ≡ cond c seen (cond b entry.seen (seen_of table other))
    split true true true rest later ea eb ec = rw eb refl
    split true false false rest later ea eb ec = rw eb refl
    split true true false rest later ea eb ec =
        let both : name ≡ other = sym ((bytes_eq-Decides entry.name name).0 ea) ∙ (bytes_eq-Decides entry.name other).0 eb in
        let yes : bytes_eq name other ≡ true = (bytes_eq-Decides name other).1 both in
        absurd cc
    split true false true rest later ea eb ec =
        let both : entry.name ≡ other = (bytes_eq-Decides entry.name name).0 ea ∙ (bytes_eq-Decides name other).0 ec in
        let yes : bytes_eq entry.name other ≡ true = (bytes_eq-Decides entry.name other).1 both in
        absurd cc
    split false true true rest later ea eb ec =
        let both : entry.name ≡ name = (bytes_eq-Decides entry.name other).0 eb ∙ sym ((bytes_eq-Decides name other).0 ec) in
        let yes : bytes_eq entry.name name ≡ true = (bytes_eq-Decides entry.name name).1 both in
        absurd cc
    split false true false rest later ea eb ec = rw eb refl
    split false false c rest later ea eb ec = rw (eb, later, ec) refl

pub ruleset places = (seen_of-found, seen_of-none, put-found, put-none)

pub ruleset overlay = (seen_of-put)
