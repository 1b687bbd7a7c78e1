-- What was put at keys is found there, and nothing else is.
use Rattle.std.proofs.Common.{◌≡◌, ℕ, Bool, true, false, cond, List, [], ◌∷◌, Option, Some, None, Ok, is_some, is_none, Ordering, Less, Equal, Greater, bytes_eq, nat_cmp, refl, sym, subst, ap, ◌∙◌}
use Rattle.std.specs.Prelude.{◌||◌, if◌then◌else◌}
use Rattle.std.specs.Cmp.Lexicographic.{slice_cmp}
use Rattle.std.specs.Ordering.{match_ordering}
use Rattle.std.specs.List.{list_all}
use Rattle.std.proofs.lemmas.Slice.Eq.{bytes_eq-Decides}
use Rattle.std.proofs.lemmas.Bool.{false≢true, and_parts}
use Rattle.serde_json.specs.Data.{Data, Members, no_members, member, put}
use Rattle.serde_json.specs.Find.{get, get_member}
use Rattle.serde_json.proofs.Views.{get_member-put, get_member-put_other}
use Rattle.sk_config.specs.Json.{unknown_in, unknown_keys, object_fault}
use Rattle.sk_rules.specs.Fields.{has, object_read}
use Rattle.sk_rules.specs.Verbs.{verb_key, only_of}
use Rattle.sk_rules.specs.declared.verb.Verb.{Verb}
use Rattle.sk_script_text.specs.Objects.{Field, put_some, put_all, with_fields}

-- the first, or else the second
abbrev pub or_there : Option Data → Option Data → Option Data
or_there None later = later
or_there (Some d) later = Some d

pub or_none : (o : Option Data) → or_there o None ≡ o
or_none None = refl
or_none (Some d) = refl

apart : (q k : List ℕ) → bytes_eq q k ≡ false → q ≡ k → ⊥
apart q k different e = false≢true (sym different ∙ (bytes_eq-Decides q k).1 e)

found : (q k : List ℕ) (o : Option Data) (ms : Members) → get_member q (put_some k o ms) ≡ cond (bytes_eq q k) (or_there o (get_member q ms)) (get_member q ms)
unfolding put_some
found q k o ms = by_test (bytes_eq q k) refl o
  where
    by_test : (b : Bool) → bytes_eq q k ≡ b → (o : Option Data) → get_member q (put_some k o ms) ≡ cond b (or_there o (get_member q ms)) (get_member q ms)
    by_test true e None = refl
    by_test false e None = refl
    by_test true e (Some d) = let same = (bytes_eq-Decides q k).0 e in subst (λ x. get_member q (put x d ms) ≡ Some d) same (get_member-put q d ms)
    by_test false e (Some d) = get_member-put_other q k d ms (apart q k e)

-- what is found at a key among these, or else this
abbrev pub value_in : List ℕ → List Field → Option Data → Option Data
value_in q [] later = later
value_in q (field ∷ fields) later = value_in q fields (cond (bytes_eq q field.key) (or_there field.value later) later)

found_all : (q : List ℕ) (fields : List Field) (ms : Members) → get_member q (put_all fields ms) ≡ value_in q fields (get_member q ms)
found_all q [] ms = refl
found_all q (field ∷ fields) ms = found_all q fields (put_some field.key field.value ms) ∙ ap (value_in q fields) (found q field.key field.value ms)

pub get_of : (q : List ℕ) (fields : List Field) → get q (with_fields fields) ≡ value_in q fields None
unfolding with_fields
get_of q fields = found_all q fields no_members

-- ---- known keys

known_at : (known : List ℕ → Bool) (path k l : List ℕ) (d e : Data) (ms : Members) (o : Ordering) → known k ≡ true → unknown_in known path (put k d ms) ≡ unknown_in known path ms
    → unknown_in known path (match_ordering o (member k d (member l e ms)) (member l d ms) (member l e (put k d ms))) ≡ unknown_in known path (member l e ms)
known_at known path k l d e ms Less fine later = rw fine refl
known_at known path k l d e ms Equal fine later = refl
known_at known path k l d e ms Greater fine later = rw later refl

known_put : (known : List ℕ → Bool) (path k : List ℕ) (d : Data) (ms : Members) → known k ≡ true → unknown_in known path (put k d ms) ≡ unknown_in known path ms
known_put known path k d no_members fine = rw fine refl
known_put known path k d (member l e ms) fine = known_at known path k l d e ms (slice_cmp nat_cmp k l) fine (known_put known path k d ms fine)

known_some : (known : List ℕ → Bool) (path k : List ℕ) (o : Option Data) (ms : Members) → (known k || is_none o) ≡ true → unknown_in known path (put_some k o ms) ≡ unknown_in known path ms
unfolding put_some
known_some known path k None ms fine = refl
known_some known path k (Some d) ms fine = known_put known path k d ms (by_test (known k) refl)
  where
    by_test : (b : Bool) → known k ≡ b → known k ≡ true
    by_test true e = e
    by_test false e = absurd (false≢true (sym (ap (λ b. b || false) e) ∙ fine))

-- each of these that has a value has a known key
abbrev pub are_known : (List ℕ → Bool) → List Field → Bool
are_known known fields = list_all (λ field. known field.key || is_none field.value) fields

known_all : (known : List ℕ → Bool) (path : List ℕ) (fields : List Field) (ms : Members) → are_known known fields ≡ true → unknown_in known path (put_all fields ms) ≡ unknown_in known path ms
known_all known path [] ms fine = refl
known_all known path (field ∷ fields) ms fine =
    let both = and_parts _ _ fine in
    known_all known path fields (put_some field.key field.value ms) both.1 ∙ known_some known path field.key field.value ms both.0

pub enters : (known : List ℕ → Bool) (path : List ℕ) (fields : List Field) → are_known known fields ≡ true → object_read known path (with_fields fields) ≡ Ok tt
unfolding object_read object_fault unknown_keys with_fields
enters known path fields fine = rw (known_all known path fields no_members fine) refl

-- ---- the one kind of action

-- the one whose key is among these
abbrev pub only_in : Option Verb → List Verb → List Field → Option Verb
only_in seen [] fields = seen
only_in None (verb ∷ later) fields = only_in (if is_some (value_in (verb_key verb) fields None) then Some verb else None) later fields
only_in (Some one) (verb ∷ later) fields = if is_some (value_in (verb_key verb) fields None) then None else only_in (Some one) later fields

pub has_of : (q : List ℕ) (fields : List Field) → has q (with_fields fields) ≡ is_some (value_in q fields None)
unfolding has
has_of q fields = ap is_some (get_of q fields)

pub only_of_is : (seen : Option Verb) (verbs : List Verb) (fields : List Field) → only_of seen verbs (with_fields fields) ≡ only_in seen verbs fields
only_of_is seen [] fields = refl
only_of_is None (verb ∷ later) fields = rw (has_of (verb_key verb) fields) (only_of_is (if is_some (value_in (verb_key verb) fields None) then Some verb else None) later fields)
only_of_is (Some one) (verb ∷ later) fields = rw (has_of (verb_key verb) fields, only_of_is (Some one) later fields) refl
