-- What was put among members is found there, and nothing else is.
use Rattle.std.proofs.Common.{◌≡◌, ℕ, ◌≤◌, Bool, true, false, cond, List, [], Option, Some, None, Ordering, Less, Equal, Greater, bytes_eq, nat_cmp, refl, sym, subst, ◌∙◌, arith}
use Rattle.std.specs.Cmp.Lexicographic.{slice_cmp}
use Rattle.std.specs.Ordering.{match_ordering}
use Rattle.std.proofs.lemmas.Slice.Eq.{bytes_eq-Decides}
use Rattle.std.proofs.lemmas.Bool.{false≢true, or_parts}
use Rattle.serde_json.specs.Data.{Data, Members, no_members, member, put, depth, members_depth}
use Rattle.serde_json.specs.Find.{get_member}
use Rattle.serde_json.specs.Written.{has_float, members_have_float}
use Rattle.serde_json.proofs.Views.{get_member-put, get_member-put_other}
use Rattle.sk_config.specs.Keys.{knows}
use Rattle.sk_config.specs.Json.{unknown_in}
use Rattle.sk_config.specs.Written.{put_some}
use Rattle.sk_config.specs.declared.keys.Object.{Object}

-- the first, or else the second
abbrev pub or_there : Option Data → Option Data → Option Data
or_there None later = later
or_there (Some d) later = Some d

pub or_none : (o : Option Data) → or_there o None ≡ o
or_none None = refl
or_none (Some d) = refl

apart : (q k : List ℕ) → bytes_eq q k ≡ false → q ≡ k → ⊥
apart q k different e = false≢true (sym different ∙ (bytes_eq-Decides q k).1 e)

pub found : (q k : List ℕ) (o : Option Data) (ms : Members) → get_member q (put_some k o ms) ≡ cond (bytes_eq q k) (or_there o (get_member q ms)) (get_member q ms)
unfolding put_some
found q k o ms = by_test (bytes_eq q k) refl o
  where
    by_test : (b : Bool) → bytes_eq q k ≡ b → (o : Option Data) → get_member q (put_some k o ms) ≡ cond b (or_there o (get_member q ms)) (get_member q ms)
    by_test true e None = refl
    by_test false e None = refl
    by_test true e (Some d) = let same = (bytes_eq-Decides q k).0 e in subst (λ x. get_member q (put x d ms) ≡ Some d) same (get_member-put q d ms)
    by_test false e (Some d) = get_member-put_other q k d ms (apart q k e)

-- a known key adds no warning
known_at : (object : Object) (path k l : List ℕ) (d e : Data) (ms : Members) (o : Ordering) → knows object k ≡ true → unknown_in (knows object) path (put k d ms) ≡ unknown_in (knows object) path ms
    → unknown_in (knows object) path (match_ordering o (member k d (member l e ms)) (member l d ms) (member l e (put k d ms))) ≡ unknown_in (knows object) path (member l e ms)
known_at object path k l d e ms Less known later = rw known refl
known_at object path k l d e ms Equal known later = refl
known_at object path k l d e ms Greater known later = rw later refl

known_put : (object : Object) (path k : List ℕ) (d : Data) (ms : Members) → knows object k ≡ true → unknown_in (knows object) path (put k d ms) ≡ unknown_in (knows object) path ms
known_put object path k d no_members known = rw known refl
known_put object path k d (member l e ms) known = known_at object path k l d e ms (slice_cmp nat_cmp k l) known (known_put object path k d ms known)

pub nothing_unused : (object : Object) (path k : List ℕ) (o : Option Data) (ms : Members) → knows object k ≡ true → unknown_in (knows object) path ms ≡ [] → unknown_in (knows object) path (put_some k o ms) ≡ []
unfolding put_some
nothing_unused object path k None ms known none = none
nothing_unused object path k (Some d) ms known none = known_put object path k d ms known ∙ none

-- ---- members without floats, and no deeper than this

pub record IsPlain (n : ℕ) (d : Data) : Type 0 where
  pub shallow : depth d ≤ n
  pub whole : has_float d ≡ false

pub record ArePlain (n : ℕ) (ms : Members) : Type 0 where
  pub shallow : members_depth ms ≤ n
  pub whole : members_have_float ms ≡ false

abbrev pub IfPlain : ℕ → Option Data → Type 0
IfPlain n None = Unit {0}
IfPlain n (Some d) = IsPlain n d

pub none_plain : (n : ℕ) → ArePlain n no_members
none_plain n = record { shallow = omega arith; whole = refl }

one_plain : (n : ℕ) (k : List ℕ) (d : Data) (ms : Members) → IsPlain n d → ArePlain n ms → ArePlain n (member k d ms)
one_plain n k d ms p q = record { shallow = omega (arith, p.shallow, q.shallow); whole = rw (p.whole, q.whole) refl }

rest_plain : (n : ℕ) (k : List ℕ) (d : Data) (ms : Members) → ArePlain n (member k d ms) → IsPlain n d × ArePlain n ms
rest_plain n k d ms p =
    let both = or_parts (has_float d) (members_have_float ms) p.whole in
    (record { shallow = omega (arith, p.shallow); whole = both.0 }, record { shallow = omega (arith, p.shallow); whole = both.1 })

plain_at : (n : ℕ) (k l : List ℕ) (d e : Data) (ms : Members) (o : Ordering) → IsPlain n d → ArePlain n (member l e ms) → ArePlain n (put k d ms) → ArePlain n (match_ordering o (member k d (member l e ms)) (member l d ms) (member l e (put k d ms)))
plain_at n k l d e ms Less p q later = one_plain n k d (member l e ms) p q
plain_at n k l d e ms Equal p q later = one_plain n l d ms p (rest_plain n l e ms q).1
plain_at n k l d e ms Greater p q later = one_plain n l e (put k d ms) (rest_plain n l e ms q).0 later

plain_put : (n : ℕ) (k : List ℕ) (d : Data) (ms : Members) → IsPlain n d → ArePlain n ms → ArePlain n (put k d ms)
plain_put n k d no_members p q = one_plain n k d no_members p q
plain_put n k d (member l e ms) p q = plain_at n k l d e ms (slice_cmp nat_cmp k l) p q (plain_put n k d ms p (rest_plain n l e ms q).1)

pub plain_some : (n : ℕ) (k : List ℕ) (o : Option Data) (ms : Members) → IfPlain n o → ArePlain n ms → ArePlain n (put_some k o ms)
unfolding put_some
plain_some n k None ms p q = q
plain_some n k (Some d) ms p q = plain_put n k d ms p q
