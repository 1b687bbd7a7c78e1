-- What is written of a scenario reads as it.
use Rattle.std.proofs.Common.{◌≡◌, ℕ, ◌+◌, ◌^◌, Bool, true, false, List, [], ◌∷◌, ◌++◌, length, map, Option, Some, None, Ok, refl, sym, subst, ap, ◌∙◌, arith}
use Rattle.std.specs.Prelude.{◌&&◌, ◌||◌, ◌==◌, nat_le, fold, if◌then◌else◌}
use Rattle.std.specs.List.{list_all, list_any, flat_map}
use Rattle.std.specs.Str.{bytes_eq, IsUtf8}
use Rattle.std.proofs.lemmas.Slice.Eq.{bytes_eq-Decides}
use Rattle.std.proofs.lemmas.Bool.{and_from, and_parts, false≢true, eqb-true, le-leb}
use Rattle.serde_json.specs.Data.{Data, string, array}
use Rattle.serde_json.specs.Find.{get}
use Rattle.serde_json.specs.Read.{read}
use Rattle.sk_base.specs.Ranges.{is_name}
use Rattle.sk_msg.specs.Each.{each_after}
use Rattle.sk_msg.specs.Rules.{is_new_name}
use Rattle.sk_config.specs.Paths.{key_at, index_at}
use Rattle.sk_config.specs.Json.{list_fault}
use Rattle.sk_rules.specs.Fields.{items_read, list_read}
use Rattle.sk_rules.specs.Orders.{is_before, are_sorted}
use Rattle.sk_script.specs.Keys.{knows, duration_key, required_key, participants_key}
use Rattle.sk_script.specs.Parts.{part_read}
use Rattle.sk_script.specs.Placing.{put_in_place, in_order}
use Rattle.sk_script.specs.Reading.{required_name_read, required_read, participants_read, names_differ, all_coordinated, required_of, parts_of, uris_of, scenario_read, reading}
use Rattle.sk_script.specs.Scenarios.{PartValue, PartReadValue, ScenarioValue, names_of, has_name, is_coordinated_in, coordinated_names, is_part, is_duration, is_participant_count, are_required, is_scenario}
use Rattle.sk_script.specs.declared.keys.Object.TheVariants.{Root}
use Rattle.sk_script_text.specs.Fitting.{part_fits, fits}
use Rattle.sk_script_text.specs.Objects.{Field, with_fields, whole, items}
use Rattle.sk_script_text.specs.Written.{part_data, are_same, required_data, scenario_data, no_uris}
use Rattle.sk_script_text.proofs.FieldLaws.{or_none, get_of, enters}
use Rattle.sk_script_text.proofs.ListLaws.{count_back, items_back}
use Rattle.sk_script_text.proofs.NameLaws.{before_differs}
use Rattle.sk_script_text.proofs.NewlineLaws.{json_of-line}
use Rattle.sk_script_text.proofs.PartLaws.{read_of, part_back}
use Rattle.sk_script_text.proofs.ValueLaws.{needed_number_back, list_back}

-- ---- participants

abbrev reads_of : List PartValue → List PartReadValue
reads_of parts = map read_of parts

append_one : (xs : List PartReadValue) (y : PartReadValue) (ys : List PartReadValue) → (xs ++ y ∷ []) ++ ys ≡ xs ++ y ∷ ys
append_one [] y ys = refl
append_one (x ∷ xs) y ys = ap (λ zs. x ∷ zs) (append_one xs y ys)

append_none : (xs : List PartReadValue) → xs ++ [] ≡ xs
append_none [] = refl
append_none (x ∷ xs) = ap (λ zs. x ∷ zs) (append_none xs)

each_back : (path : List ℕ) (earlier : List PartReadValue) (index : ℕ) (parts : List PartValue) → list_all is_part parts ≡ true → list_all part_fits parts ≡ true
    → items_read (λ at (before : List PartReadValue) v. part_read at v) path earlier index (items part_data parts) ≡ Ok (earlier ++ reads_of parts)
each_back path earlier index [] fine fit = ap Ok (sym (append_none earlier))
each_back path earlier index (part ∷ parts) fine fit =
    let p = and_parts (is_part part) (list_all is_part parts) fine in
    let q = and_parts (part_fits part) (list_all part_fits parts) fit in
    rw (part_back (index_at path index) part p.0 q.0, each_back path (earlier ++ read_of part ∷ []) (index + 1) parts p.1 q.1) (ap Ok (append_one earlier (read_of part) (reads_of parts)))

participants_back : (path : List ℕ) (d : Data) (parts : List PartValue) → is_participant_count (length parts) ≡ true → list_all is_part parts ≡ true → list_all part_fits parts ≡ true
    → get participants_key d ≡ Some (array (items part_data parts)) → participants_read path d ≡ Ok (reads_of parts)
unfolding participants_read is_participant_count
participants_back path d parts count fine fit there =
    let range = and_parts (nat_le 1 (length parts)) (nat_le (length parts) 32) count in
    let many = count_back part_data parts in
    rw (list_back path participants_key d 1 32 (items part_data parts) there (ap (nat_le 1) many ∙ range.0) (ap (λ n. nat_le n 32) many ∙ range.1))
    (each_back (key_at path participants_key) [] 0 parts fine fit)

-- ---- their names are in order

-- each of these names comes before all of the others
abbrev come_before : List PartReadValue → List (List ℕ) → Bool
come_before earlier names = list_all (λ (one : PartReadValue). list_all (is_before one.part.name) names) earlier

before_less : (earlier : List PartReadValue) (name : List ℕ) (names : List (List ℕ)) → come_before earlier (name ∷ names) ≡ true → come_before earlier names ≡ true
before_less [] name names h = refl
before_less (one ∷ earlier) name names h =
    let p = and_parts (list_all (is_before one.part.name) (name ∷ names)) (come_before earlier (name ∷ names)) h in
    let q = and_parts (is_before one.part.name name) (list_all (is_before one.part.name) names) p.0 in
    and_from _ _ q.1 (before_less earlier name names p.1)

before_more : (earlier : List PartReadValue) (one : PartReadValue) (names : List (List ℕ)) → come_before earlier names ≡ true → list_all (is_before one.part.name) names ≡ true → come_before (earlier ++ one ∷ []) names ≡ true
before_more [] one names h new = and_from _ _ new refl
before_more (first ∷ earlier) one names h new =
    let p = and_parts (list_all (is_before first.part.name) names) (come_before earlier names) h in
    and_from _ _ p.0 (before_more earlier one names p.1 new)

unused_name : (earlier : List PartReadValue) (name : List ℕ) (names : List (List ℕ)) → come_before earlier (name ∷ names) ≡ true → list_any (λ (one : PartReadValue). bytes_eq one.part.name name) earlier ≡ false
unused_name [] name names h = refl
unused_name (one ∷ earlier) name names h =
    let p = and_parts (list_all (is_before one.part.name) (name ∷ names)) (come_before earlier (name ∷ names)) h in
    let q = and_parts (is_before one.part.name name) (list_all (is_before one.part.name) names) p.0 in
    rw (before_differs one.part.name name q.0, unused_name earlier name names p.1) refl

differ_back : (path : List ℕ) (earlier : List PartReadValue) (index : ℕ) (parts : List PartValue) → come_before earlier (names_of parts) ≡ true → are_sorted (names_of parts) ≡ true
    → names_differ path earlier index (reads_of parts) ≡ Ok tt
unfolding has_name
differ_back path earlier index [] before sorted = refl
differ_back path earlier index (part ∷ parts) before sorted =
    let s = and_parts (list_all (is_before part.name) (names_of parts)) (are_sorted (names_of parts)) sorted in
    rw (unused_name earlier part.name (names_of parts) before)
    (differ_back path (earlier ++ read_of part ∷ []) (index + 1) parts (before_more earlier (read_of part) (names_of parts) (before_less earlier part.name (names_of parts) before) s.0) s.1)

put_behind : (new : PartReadValue) (names : List (List ℕ)) (earlier : List PartReadValue) → come_before earlier (new.part.name ∷ names) ≡ true → put_in_place new earlier ≡ earlier ++ new ∷ []
put_behind new names [] h = refl
put_behind new names (one ∷ earlier) h =
    let p = and_parts (list_all (is_before one.part.name) (new.part.name ∷ names)) (come_before earlier (new.part.name ∷ names)) h in
    let q = and_parts (is_before one.part.name new.part.name) (list_all (is_before one.part.name) names) p.0 in
    rw q.0 (ap (λ zs. one ∷ zs) (put_behind new names earlier p.1))

stay : (earlier : List PartReadValue) (parts : List PartValue) → come_before earlier (names_of parts) ≡ true → are_sorted (names_of parts) ≡ true
    → fold (λ ordered one. put_in_place one ordered) earlier (reads_of parts) ≡ earlier ++ reads_of parts
stay earlier [] before sorted = sym (append_none earlier)
stay earlier (part ∷ parts) before sorted =
    let s = and_parts (list_all (is_before part.name) (names_of parts)) (are_sorted (names_of parts)) sorted in
    ap (λ zs. fold (λ ordered one. put_in_place one ordered) zs (reads_of parts)) (put_behind (read_of part) (names_of parts) earlier before)
    ∙ stay (earlier ++ read_of part ∷ []) parts (before_more earlier (read_of part) (names_of parts) (before_less earlier part.name (names_of parts) before) s.0) s.1
    ∙ append_one earlier (read_of part) (reads_of parts)

order_back : (parts : List PartValue) → are_sorted (names_of parts) ≡ true → in_order (reads_of parts) ≡ reads_of parts
unfolding in_order
order_back parts sorted = stay [] parts refl sorted

parts_back : (parts : List PartValue) → parts_of (reads_of parts) ≡ parts
parts_back [] = refl
parts_back (part ∷ parts) = ap (λ ps. part ∷ ps) (parts_back parts)

uris_back : (parts : List PartValue) → uris_of (reads_of parts) ≡ no_uris parts
uris_back [] = refl
uris_back (part ∷ parts) = ap (λ us. None ∷ us) (uris_back parts)

warnings_back : (parts : List PartValue) → flat_map (λ (one : PartReadValue). one.warnings) (reads_of parts) ≡ []
warnings_back [] = refl
warnings_back (part ∷ parts) = warnings_back parts

-- ---- the required names

same_are : (names others : List (List ℕ)) → are_same names others ≡ true → names ≡ others
same_are [] [] h = refl
same_are [] (other ∷ others) h = absurd (false≢true h)
same_are (name ∷ names) [] h = absurd (false≢true h)
same_are (name ∷ names) (other ∷ others) h = by_test (bytes_eq name other) refl h (same_are names others)
  where
    by_test : (b : Bool) → bytes_eq name other ≡ b → (if b then are_same names others else false) ≡ true → (are_same names others ≡ true → names ≡ others) → name ∷ names ≡ other ∷ others
    by_test true t h later = let same : name ≡ other = (bytes_eq-Decides name other).0 t in let rest = later h in λ j. same j ∷ rest j
    by_test false t h later = absurd (false≢true h)

-- a name of a participant is a name
stands_named : (parts : List PartValue) (name : List ℕ) → list_all is_part parts ≡ true → list_any (λ part. part.coordinated && bytes_eq part.name name) parts ≡ true → is_name name ≡ true
unfolding is_part
stands_named [] name fine there = absurd (false≢true there)
stands_named (part ∷ parts) name fine there =
    let p = and_parts (is_part part) (list_all is_part parts) fine in
    by_test (part.coordinated && bytes_eq part.name name) refl (and_parts _ _ p.0).0 (stands_named parts name p.1)
  where
    by_test : (b : Bool) → (part.coordinated && bytes_eq part.name name) ≡ b → is_name part.name ≡ true → (list_any (λ one. one.coordinated && bytes_eq one.name name) parts ≡ true → is_name name ≡ true) → is_name name ≡ true
    by_test true t named later = let q = and_parts part.coordinated (bytes_eq part.name name) t in subst (λ n. is_name n ≡ true) ((bytes_eq-Decides part.name name).0 q.1) named
    by_test false t named later = later (rw t at there)

all_stand : (path : List ℕ) (parts : List PartValue) (index : ℕ) (names : List (List ℕ)) → list_all (is_coordinated_in parts) names ≡ true → all_coordinated path parts index names ≡ Ok tt
all_stand path parts index [] h = refl
all_stand path parts index (name ∷ names) h =
    let p = and_parts (is_coordinated_in parts name) (list_all (is_coordinated_in parts) names) h in
    rw p.0 (all_stand path parts (index + 1) names p.1)

all_names : (parts : List PartValue) (names : List (List ℕ)) → list_all is_part parts ≡ true → list_all (is_coordinated_in parts) names ≡ true → list_all is_name names ≡ true
unfolding is_coordinated_in
all_names parts [] fine h = refl
all_names parts (name ∷ names) fine h =
    let p = and_parts (list_any (λ (part : PartValue). part.coordinated && bytes_eq part.name name) parts) (list_all (λ (n : List ℕ). list_any (λ (part : PartValue). part.coordinated && bytes_eq part.name n) parts) names) h in
    and_from _ _ (stands_named parts name fine p.0) (all_names parts names fine p.1)

both_after : (before names : List (List ℕ)) → list_all is_name names ≡ true → each_after is_new_name before names ≡ true → each_after (λ earlier name. is_name name && is_new_name earlier name) before names ≡ true
both_after before [] p q = refl
both_after before (name ∷ names) p q =
    let a = and_parts (is_name name) (list_all is_name names) p in
    let b = and_parts (is_new_name before name) (each_after is_new_name (before ++ name ∷ []) names) q in
    and_from _ _ (and_from _ _ a.0 b.0) (both_after (before ++ name ∷ []) names a.1 b.1)

name_back : (path : List ℕ) (earlier : List (List ℕ)) (name : List ℕ) → (is_name name && is_new_name earlier name) ≡ true → required_name_read path earlier (string name) ≡ Ok name
name_back path earlier name h = let p = and_parts (is_name name) (is_new_name earlier name) h in rw (p.0, p.1) refl

names_back : (path : List ℕ) (names : List (List ℕ)) → list_all is_name names ≡ true → each_after is_new_name [] names ≡ true → items_read required_name_read path [] 0 (items string names) ≡ Ok names
names_back path names named new =
    items_back required_name_read string (λ earlier name. is_name name && is_new_name earlier name) name_back path [] 0 names (both_after [] names named new)

abbrev given_of : Bool → List (List ℕ) → Option (List (List ℕ))
given_of true names = None
given_of false names = Some names

-- what is known of required names
record IsRequired (parts : List PartValue) (names : List (List ℕ)) : Type 0 where
  few : nat_le (length names) 32 ≡ true
  new : each_after is_new_name [] names ≡ true
  stand : list_all (is_coordinated_in parts) names ≡ true
  some : (nat_le 1 (length names) || length (coordinated_names parts) == 0) ≡ true

required_is : (parts : List PartValue) (names : List (List ℕ)) → are_required parts names ≡ true → IsRequired parts names
unfolding are_required
required_is parts names h =
    let a = and_parts (nat_le (length names) 32) (each_after is_new_name [] names && (list_all (is_coordinated_in parts) names && (nat_le 1 (length names) || length (coordinated_names parts) == 0))) h in
    let b = and_parts (each_after is_new_name [] names) (list_all (is_coordinated_in parts) names && (nat_le 1 (length names) || length (coordinated_names parts) == 0)) a.1 in
    let c = and_parts (list_all (is_coordinated_in parts) names) (nat_le 1 (length names) || length (coordinated_names parts) == 0) b.1 in
    record { few = a.0; new = b.0; stand = c.0; some = c.1 }

-- where they aren't as by default there is one
one_at_least : (names others : List (List ℕ)) → are_same names others ≡ false → (nat_le 1 (length names) || length others == 0) ≡ true → nat_le 1 (length names) ≡ true
one_at_least [] [] other some = absurd (false≢true (sym other))
one_at_least [] (name ∷ names) other some = let none = eqb-true _ _ some in absurd (omega (arith, none))
one_at_least (name ∷ names) others other some = le-leb 1 (length (name ∷ names)) (omega arith)

module _ (path : List ℕ) (d : Data) (parts : List PartValue) (names : List (List ℕ)) (fine : list_all is_part parts ≡ true) (required : are_required parts names ≡ true)
    (there : get required_key d ≡ (if are_same names (coordinated_names parts) then None else Some (array (items string names)))) where
  given_back : (b : Bool) → are_same names (coordinated_names parts) ≡ b → required_read path d ≡ Ok (given_of b names)
  unfolding required_read list_read list_fault
  given_back true t = rw (there, t) refl
  given_back false t =
      let r = required_is parts names required in
      let some = one_at_least names (coordinated_names parts) t r.some in
      let many = count_back string names in
      rw (
        list_back path required_key d 1 32 (items string names) (there ∙ rw t refl) (ap (nat_le 1) many ∙ some) (ap (λ n. nat_le n 32) many ∙ r.few),
        names_back (key_at path required_key) names (all_names parts names fine r.stand) r.new,
      ) refl

  required_back : (other : List ℕ) (b : Bool) → are_same names (coordinated_names parts) ≡ b → required_of other parts (given_of b names) ≡ Ok names
  required_back other true t = ap Ok (sym (same_are names (coordinated_names parts) t))
  required_back other false t = rw (all_stand other parts 0 names (required_is parts names required).stand) refl

-- ---- the whole

-- what is known of a scenario
record IsFine (s : ScenarioValue) : Type 0 where
  duration : nat_le s.duration (2 ^ 61) ≡ true
  count : is_participant_count (length s.participants) ≡ true
  parts : list_all is_part s.participants ≡ true
  sorted : are_sorted (names_of s.participants) ≡ true
  required : are_required s.participants s.required ≡ true

fine_is : (s : ScenarioValue) → is_scenario s ≡ true → IsFine s
unfolding is_scenario is_duration
fine_is s h =
    let a = and_parts _ _ h in
    let b = and_parts _ _ a.1 in
    let c = and_parts _ _ b.1 in
    let d = and_parts _ _ c.1 in
    record { duration = a.0; count = b.0; parts = c.0; sorted = d.0; required = d.1 }

pub scenario_back : (path : List ℕ) (s : ScenarioValue) → is_scenario s ≡ true → fits s ≡ true → scenario_read path (scenario_data s) ≡ Ok (record { scenario = s; uris = no_uris s.participants; warnings = [] })
unfolding scenario_read scenario_data required_data fits knows
scenario_back path s h fit =
    let fine = fine_is s h in
    let parts = s.participants in
    let fields : List Field =
    record { key = duration_key; value = whole s.duration }
    ∷ record { key = required_key; value = if are_same s.required (coordinated_names parts) then None else Some (array (items string s.required)) }
    ∷ record { key = participants_key; value = Some (array (items part_data parts)) }
    ∷ [] in
    let d = with_fields fields in
    let there = get_of required_key fields ∙ or_none _ in
    let same = are_same s.required (coordinated_names parts) in
    rw (
      enters (knows Root) path fields refl,
      needed_number_back path duration_key d 0 (2 ^ 61) s.duration (get_of duration_key fields) (le-leb 0 s.duration (omega arith)) fine.duration,
      given_back path d parts s.required fine.parts fine.required there same refl,
      participants_back path d parts fine.count fine.parts fit (get_of participants_key fields),
      differ_back (key_at path participants_key) [] 0 parts refl fine.sorted,
      order_back parts fine.sorted,
      parts_back parts,
      required_back path d parts s.required fine.parts fine.required there (key_at path required_key) same refl,
      uris_back parts,
      warnings_back parts,
    ) refl

-- the bytes of what is written, with a newline
pub bytes_back : (s : ScenarioValue) (bytes : List ℕ) → is_scenario s ≡ true → fits s ≡ true → IsUtf8 bytes → read bytes ≡ Some (scenario_data s)
    → reading (bytes ++ 10 ∷ []) ≡ Ok (record { scenario = s; uris = no_uris s.participants; warnings = [] })
unfolding reading
bytes_back s bytes rules fit utf8 reads = rw (json_of-line bytes (Some (scenario_data s)) utf8 reads) (scenario_back [] s rules fit)
