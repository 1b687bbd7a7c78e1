-- How the keys of the file and what several participants keep together make a scenario.
use Rattle.std.proofs.Common.{◌≡◌, ℕ, ◌≤◌, ◌^◌, true, List, [], ◌∷◌, length, map, Option, Some, None, Ok, Err, ◌⊎◌, inl, inr, refl, ap, subst, ◌∙◌, arith}
use Rattle.std.specs.Prelude.{Result, ⊤, nat_le}
use Rattle.std.specs.List.{list_all, flat_map}
use Rattle.std.proofs.lemmas.Bool.{and_from, le-leb}
use Rattle.std.proofs.lemmas.List.{length-map}
use Rattle.serde_json.specs.Data.{Data, Items}
use Rattle.serde_json.specs.Find.{as_str}
use Rattle.sk_base.specs.Ranges.{is_name}
use Rattle.sk_msg.specs.Rules.{is_new_name}
use Rattle.sk_config.specs.Paths.{key_at}
use Rattle.sk_rules.specs.Fields.{object_read, needed, needed_number, list_read, items_read}
use Rattle.sk_rules.specs.Orders.{are_sorted}
use Rattle.sk_rules.specs.Outcome.{◌>>=◌, must, found}
use Rattle.sk_rules.specs.declared.fault.Rule.TheVariants as rules
use Rattle.sk_rules.specs.declared.fault.ScenarioFault.{ScenarioFault}
use Rattle.sk_rules.specs.declared.fault.ScenarioFault.TheVariants.{WantOfMemory}
use Rattle.sk_script.specs.Keys.{knows, duration_key, required_key, participants_key}
use Rattle.sk_script.specs.Parts.{part_read}
use Rattle.sk_script.specs.Placing.{in_order}
use Rattle.sk_script.specs.Reading.{required_name_read, names_in, required_read, participants_read, names_differ, required_of, parts_of, uris_of, scenario_read}
use Rattle.sk_script.specs.Scenarios.{PartReadValue, names_of, is_part, is_duration, is_participant_count, is_scenario}
use Rattle.sk_script.specs.declared.keys.Object.TheVariants.{Root}
use Rattle.sk_script.proofs.OutcomeLaws.{then_ok, after_ok, found_ok, must_ok, ok_is}
use Rattle.sk_script.proofs.FieldLaws.{needed_within, list_within}
use Rattle.sk_script.proofs.ItemLaws.{items_pass, items_number}
use Rattle.sk_script.proofs.PlacingLaws.{length_in_order, in_order_sorted}
use Rattle.sk_script.proofs.RequiredLaws.{AreGiven, required_rules}

-- ---- the duration

duration_is : (path : List ℕ) (d : Data) (duration : ℕ) → needed_number 0 (2 ^ 61) path duration_key d ≡ Ok duration → is_duration duration ≡ true
unfolding is_duration
duration_is path d duration e = let range = needed_within 0 (2 ^ 61) path duration_key d duration e in le-leb duration (2 ^ 61) range.1

-- ---- the required names

new_name : (path : List ℕ) (earlier : List (List ℕ)) (d : Data) (name : List ℕ) → required_name_read path earlier d ≡ Ok name → is_new_name earlier name ≡ true
new_name path earlier d name e =
    then_ok (found path rules.WrongType (as_str d)) _ name e (λ text there rest.
    after_ok (must path rules.BadText (is_name text)) _ name rest (λ x named rest.
    after_ok (must path rules.NameTaken (is_new_name earlier text)) _ name rest (λ y new same.
    subst (λ (n : List ℕ). is_new_name earlier n ≡ true) (ok_is _ _ same) (must_ok _ _ _ _ new))))

given_are : (path : List ℕ) (d : Data) (given : Option (List (List ℕ))) → required_read path d ≡ Ok given → AreGiven given
unfolding required_read
given_are path d given e = then_ok (list_read 1 32 path required_key d) _ given e by_items
  where
    some_are : (ds : Items) → list_read 1 32 path required_key d ≡ Ok (Some ds) → (names : List (List ℕ)) → items_read required_name_read (key_at path required_key) [] 0 ds ≡ Ok names → AreGiven (Some names)
    some_are ds listed names read =
        let range = list_within 1 32 path required_key d ds listed in
        let count = items_number required_name_read (key_at path required_key) [] 0 ds names read in
        (omega (arith, range.0, count), omega (arith, range.1, count), items_pass required_name_read is_new_name new_name (key_at path required_key) [] 0 ds names read refl)

    by_items : (o : Option Items) → list_read 1 32 path required_key d ≡ Ok o → names_in (key_at path required_key) o ≡ Ok given → AreGiven given
    by_items None listed read = subst AreGiven (ok_is _ _ read) tt
    by_items (Some ds) listed read =
        then_ok (items_read required_name_read (key_at path required_key) [] 0 ds) _ given read
        (λ names named same. subst AreGiven (ok_is _ _ same) (some_are ds listed names named))

-- ---- the participants

count_is : (path : List ℕ) (d : Data) (reads : List PartReadValue) → participants_read path d ≡ Ok reads → (1 ≤ length reads) × (length reads ≤ 32)
unfolding participants_read
count_is path d reads e =
    then_ok (list_read 1 32 path participants_key d) _ reads e (λ given listed rest.
    then_ok (needed path participants_key given) _ reads rest (λ ds there read.
    let range = list_within 1 32 path participants_key d ds (subst (λ (o : Option Items). list_read 1 32 path participants_key d ≡ Ok o) (found_ok _ _ given ds there) listed) in
    let count = items_number (λ at (earlier : List PartReadValue) v. part_read at v) (key_at path participants_key) [] 0 ds reads read in
    (omega (arith, range.0, count), omega (arith, range.1, count))))

-- ---- the whole

module _ (path : List ℕ) (d : Data) (duration : ℕ) (given : Option (List (List ℕ))) (reads : List PartReadValue) (place other : List ℕ) (sure : ⊤) (required : List (List ℕ))
    (lasts : needed_number 0 (2 ^ 61) path duration_key d ≡ Ok duration) (named : required_read path d ≡ Ok given) (read : participants_read path d ≡ Ok reads)
    (differ : names_differ place [] 0 reads ≡ Ok sure) (stand : required_of other (parts_of (in_order reads)) given ≡ Ok required) (fine : list_all is_part (parts_of (in_order reads)) ≡ true) where
  length_is : length (parts_of (in_order reads)) ≡ length reads
  length_is = length-map (in_order reads) (λ (one : PartReadValue). one.part) ∙ length_in_order reads

  names_are : names_of (parts_of (in_order reads)) ≡ map (λ (one : PartReadValue). one.part.name) (in_order reads)
  names_are = by_list (in_order reads)
    where
      by_list : (xs : List PartReadValue) → names_of (parts_of xs) ≡ map (λ (one : PartReadValue). one.part.name) xs
      by_list [] = refl
      by_list (x ∷ xs) = ap (λ (names : List (List ℕ)). x.part.name ∷ names) (by_list xs)

  pub scenario_rules : is_scenario (record { duration = duration; required = required; participants = parts_of (in_order reads) }) ≡ true
  unfolding is_scenario is_participant_count
  scenario_rules =
      let count = count_is path d reads read in
      let sorted : are_sorted (names_of (parts_of (in_order reads))) ≡ true = ap are_sorted names_are ∙ in_order_sorted place reads sure differ in
      let least : nat_le 1 (length (parts_of (in_order reads))) ≡ true = le-leb 1 (length (parts_of (in_order reads))) (omega (arith, count.0, length_is)) in
      let most : nat_le (length (parts_of (in_order reads))) 32 ≡ true = le-leb (length (parts_of (in_order reads))) 32 (omega (arith, count.1, length_is)) in
      let few : length (parts_of (in_order reads)) ≤ 32 = omega (arith, count.1, length_is) in
      and_from _ _ (duration_is path d duration lasts)
      (and_from _ _ (and_from _ _ least most)
      (and_from _ _ fine (and_from _ _ sorted (required_rules other (parts_of (in_order reads)) given required (given_are path d given named) sorted few stand))))

-- all but the required names, which come last
pub scenario_rest : (path : List ℕ) (d : Data) (entered : ⊤) (duration : ℕ) (given : Option (List (List ℕ))) (reads : List PartReadValue) (sure : ⊤) (place other : List ℕ)
    → place ≡ key_at path participants_key → other ≡ key_at path required_key
    → object_read (knows Root) path d ≡ Ok entered → needed_number 0 (2 ^ 61) path duration_key d ≡ Ok duration → required_read path d ≡ Ok given → participants_read path d ≡ Ok reads
    → names_differ place [] 0 reads ≡ Ok sure
    → scenario_read path d ≡ (required_of other (parts_of (in_order reads)) given >>= λ required. Ok (record {
      scenario = record { duration = duration; required = required; participants = parts_of (in_order reads) };
      uris = uris_of (in_order reads);
      warnings = flat_map (λ (one : PartReadValue). one.warnings) reads;
    }))
unfolding scenario_read
scenario_rest path d entered duration given reads sure place other here there one two three four five =
    rw (one, two, three, four, there, subst (λ (p : List ℕ). names_differ p [] 0 reads ≡ Ok sure) here five) refl

pub rest_refused : {A B : Type 0} (r : Result A ScenarioFault) (next : A → Result B ScenarioFault) (fault : ScenarioFault) → (fault ≡ WantOfMemory) ⊎ (r ≡ Err fault) → (fault ≡ WantOfMemory) ⊎ ((r >>= next) ≡ Err fault)
rest_refused r next fault (inl memory) = inl memory
rest_refused r next fault (inr is) = inr (rw is refl)
