-- How the parts of a reading make the whole.
use Rattle.std.proofs.Common.{◌≡◌, ◌⊎◌, inl, inr, ℕ, Bool, true, false, List, [], ◌∷◌, ◌++◌, length, get_or, drop, drop-cons, ◌+◌, ◌<◌, ◌≤◌, add-one, arith, length-append, Option, Some, None, Err, option_and_then, is_none, ◌||◌, subst, refl, sym, ap, ◌∙◌, append_assoc, append-nil}
use Rattle.std.specs.Prelude.{nat_le, ◌&&◌}
use Rattle.std.proofs.lemmas.Bool.{and_from, and_parts, le-leb, leb-true}
use Rattle.serde_json.specs.Data.{Data, Items, item}
use Rattle.serde_json.specs.Find.{get, as_array}
use Rattle.serde_json.specs.Events.{items_len}
use Rattle.serde_json.proofs.Views.{items_len-items_view}
use Rattle.serde_json.specs.View.{view, items_view}
use Rattle.serde_json.specs.declared.value.Value.{Value}
use Rattle.sk_base.specs.Ranges.{is_name}
use Rattle.sk_msg.specs.Each.{each_after}
use Rattle.sk_config.specs.Configs.{is_new, is_none_or, is_next_entry, is_entry_count, are_entries}
use Rattle.sk_msg.specs.declared.service.ServiceKind.{ServiceKind}
use Rattle.sk_config.specs.Keys.{row_of, name_key}
use Rattle.sk_config.specs.Paths.{key_at, index_at}
use Rattle.sk_config.specs.Json.{IsRead, Refuses, first_of, text_at, text_fault, missing_fault, object_fault, items_at, list_at, list_fault, count_fault}
use Rattle.sk_config.specs.Faults.{config_faults}
use Rattle.sk_config.specs.Reading.{double_fault, entry_name_fault, name_of, history_fault, history_of, entry_fault, entry_of, entries_fault, entries_in, entries_unused, unused_keys, kind_fault, list_of, list_unused, fault_of, reading_at}
use Rattle.sk_config.specs.declared.config.ConfigEntry.{ConfigEntry}
use Rattle.sk_config.specs.declared.fault.ConfigFault.{ConfigFault}
use Rattle.sk_config.specs.declared.fault.ConfigFault.TheVariants.{Missing, Double, WantOfMemory}
use Rattle.sk_config.specs.declared.keys.Object.TheVariants.{Entry}
use Rattle.sk_config.proofs.JsonLaws.{absent_text, present_text}

-- ---- the first fault of several parts

pub first_refuses : (a : Option ConfigFault) (later : List (Option ConfigFault)) (e : ConfigFault) → Refuses config_faults a e → Refuses config_faults (first_of (a ∷ later)) e
first_refuses a later e (inl memory) = inl memory
first_refuses a later e (inr is) = inr (rw is refl)

pub later_refuses : (a : Option ConfigFault) (later : List (Option ConfigFault)) (e : ConfigFault) → a ≡ None → Refuses config_faults (first_of later) e → Refuses config_faults (first_of (a ∷ later)) e
later_refuses a later e none h = rw none h

-- ---- the name of an entry

pub no_name : (path : List ℕ) (earlier : List ConfigEntry) (d : Data) → text_fault config_faults is_name path name_key d ≡ None → text_at name_key d ≡ None → entry_name_fault path earlier d ≡ Some (Missing (key_at path name_key))
unfolding entry_name_fault missing_fault
no_name path earlier d none e = rw (none, absent_text config_faults is_name path name_key d none e) refl

pub double_name : (path : List ℕ) (earlier : List ConfigEntry) (d : Data) (name : List ℕ) → text_fault config_faults is_name path name_key d ≡ None → text_at name_key d ≡ Some name → is_new earlier name ≡ false → entry_name_fault path earlier d ≡ Some (Double (key_at path name_key))
unfolding entry_name_fault missing_fault double_fault name_of
double_name path earlier d name none e stands = rw (none, present_text name_key d name e, e, stands) refl

pub fine_name : (path : List ℕ) (earlier : List ConfigEntry) (d : Data) (name : List ℕ) → text_fault config_faults is_name path name_key d ≡ None → text_at name_key d ≡ Some name → is_new earlier name ≡ true → (entry_name_fault path earlier d ≡ None) × (name ≡ name_of d)
unfolding entry_name_fault missing_fault double_fault name_of
fine_name path earlier d name none e new = (rw (none, present_text name_key d name e, e, new) refl, rw e refl)

pub name_refuses : (path : List ℕ) (earlier : List ConfigEntry) (d : Data) (e : ConfigFault) → Refuses config_faults (text_fault config_faults is_name path name_key d) e → Refuses config_faults (entry_name_fault path earlier d) e
unfolding entry_name_fault
name_refuses path earlier d e h = first_refuses _ _ e h

pub ruleset names = (no_name, double_name, fine_name)

-- ---- an entry

module _ (kind : ServiceKind) (path : List ℕ) (earlier : List ConfigEntry) (d : Data) (e : ConfigFault) where
  pub entry_refuses_object : Refuses config_faults (object_fault config_faults path d) e → Refuses config_faults (entry_fault kind path earlier d) e
  unfolding entry_fault
  entry_refuses_object h = first_refuses _ _ e h

  pub entry_refuses_name : object_fault config_faults path d ≡ None → Refuses config_faults (entry_name_fault path earlier d) e → Refuses config_faults (entry_fault kind path earlier d) e
  unfolding entry_fault
  entry_refuses_name one h = later_refuses _ _ e one (first_refuses _ _ e h)

  pub entry_refuses_target : (target : List ℕ) → target ≡ (row_of kind).target → object_fault config_faults path d ≡ None → entry_name_fault path earlier d ≡ None → Refuses config_faults (text_fault config_faults is_name path target d) e → Refuses config_faults (entry_fault kind path earlier d) e
  unfolding entry_fault
  entry_refuses_target target is one two h = later_refuses _ _ e one (later_refuses _ _ e two (first_refuses _ _ e (subst (λ t. Refuses config_faults (text_fault config_faults is_name path t d) e) is h)))

  pub entry_refuses_history : (target : List ℕ) → target ≡ (row_of kind).target → object_fault config_faults path d ≡ None → entry_name_fault path earlier d ≡ None → text_fault config_faults is_name path target d ≡ None → Refuses config_faults (history_fault kind path d) e → Refuses config_faults (entry_fault kind path earlier d) e
  unfolding entry_fault
  entry_refuses_history target is one two three h = later_refuses _ _ e one (later_refuses _ _ e two (later_refuses _ _ e (subst (λ t. text_fault config_faults is_name path t d ≡ None) is three) (first_refuses _ _ e h)))

pub entry_fine : (kind : ServiceKind) (path : List ℕ) (earlier : List ConfigEntry) (d : Data) (target : List ℕ) → target ≡ (row_of kind).target → object_fault config_faults path d ≡ None → entry_name_fault path earlier d ≡ None → text_fault config_faults is_name path target d ≡ None → history_fault kind path d ≡ None → entry_fault kind path earlier d ≡ None
unfolding entry_fault
entry_fine kind path earlier d target is one two three four =
    let third = subst (λ t. text_fault config_faults is_name path t d ≡ None) is three in
    rw (one, two, third, four) refl

pub entry_is : (kind : ServiceKind) (d : Data) (key name : List ℕ) (target : Option (List ℕ)) (history : Option Bool) → key ≡ (row_of kind).target → name ≡ name_of d → target ≡ text_at key d → history ≡ history_of kind d → ◌≡◌ {A = ConfigEntry} (record { name = name; target = target; history = history }) (entry_of kind d)
unfolding entry_of
entry_is kind d key name target history is one two three =
    let second = subst (λ t. target ≡ text_at t d) is two in
    rw (one, second, three) refl

pub next_entry : (kind : ServiceKind) (earlier : List ConfigEntry) (entry : ConfigEntry) → is_name entry.name ≡ true → is_new earlier entry.name ≡ true → is_none_or is_name entry.target ≡ true → ((row_of kind).has_history || is_none entry.history) ≡ true → is_next_entry kind earlier entry ≡ true
unfolding is_next_entry
next_entry kind earlier entry one two three four = and_from _ _ one (and_from _ _ two (and_from _ _ three four))

-- ---- the entries of a list

-- one more at the end
each_after-snoc : {A : Type 0} (test : List A → A → Bool) (before xs : List A) (x : A) → each_after test before xs ≡ true → test (before ++ xs) x ≡ true → each_after test before (xs ++ x ∷ []) ≡ true
each_after-snoc {A = A} test before [] x h t = and_from _ _ (ap (λ (ys : List A). test ys x) (sym (append-nil before)) ∙ t) refl
each_after-snoc {A = A} test before (y ∷ ys) x h t =
    let both = and_parts _ _ h in
    and_from _ _ both.0 (each_after-snoc test (before ++ y ∷ []) ys x both.1 (ap (λ (zs : List A). test zs x) (append_assoc before (y ∷ []) ys) ∙ t))

-- these entries and warnings are those of the items before this index, where these are left of all
pub record IsReadTo (kind : ServiceKind) (path : List ℕ) (warned : List (List ℕ)) (all : Items) (entries : List ConfigEntry) (warnings : List (List ℕ)) (index : ℕ) (left : Items) : Type 0 where
  pub fault : entries_fault kind path entries index left ≡ entries_fault kind path [] 0 all
  pub value : entries ++ entries_in kind left ≡ entries_in kind all
  pub noted : warnings ++ entries_unused kind path index left ≡ warned ++ entries_unused kind path 0 all
  pub count : length entries ≡ index
  pub rules : each_after (is_next_entry kind) [] entries ≡ true

pub read_none : (kind : ServiceKind) (path : List ℕ) (warned : List (List ℕ)) (all : Items) → IsReadTo kind path warned all [] warned 0 all
read_none kind path warned all = record { fault = refl; value = refl; noted = refl; count = refl; rules = refl }

only_later : (a b : Option ConfigFault) → a ≡ None → first_of (a ∷ b ∷ []) ≡ b
only_later a None none = rw none refl
only_later a (Some fault) none = rw none refl

-- one item more
more : (kind : ServiceKind) (path : List ℕ) (warned : List (List ℕ)) (all : Items) (entries : List ConfigEntry) (warnings : List (List ℕ)) (index : ℕ) (d : Data) (left : Items)
    → IsReadTo kind path warned all entries warnings index (item d left)
    → entry_fault kind (index_at path index) entries d ≡ None
    → is_next_entry kind entries (entry_of kind d) ≡ true
    → IsReadTo kind path warned all (entries ++ entry_of kind d ∷ []) (warnings ++ unused_keys (Entry kind) (index_at path index) d) (index + 1) left
more kind path warned all entries warnings index d left so_far fine next = record {
  fault = sym (only_later _ _ fine) ∙ so_far.fault;
  value = append_assoc entries _ _ ∙ so_far.value;
  noted = append_assoc warnings _ _ ∙ so_far.noted;
  count = simp length-append (omega (arith, so_far.count));
  rules = each_after-snoc (is_next_entry kind) [] entries (entry_of kind d) so_far.rules next;
}

refused : (kind : ServiceKind) (path : List ℕ) (warned : List (List ℕ)) (all : Items) (entries : List ConfigEntry) (warnings : List (List ℕ)) (index : ℕ) (d : Data) (left : Items) (e : ConfigFault)
    → IsReadTo kind path warned all entries warnings index (item d left) → Refuses config_faults (entry_fault kind (index_at path index) entries d) e → Refuses config_faults (entries_fault kind path [] 0 all) e
refused kind path warned all entries warnings index d left e so_far h =
    subst (λ f. Refuses config_faults f e) so_far.fault (first_refuses _ (entries_fault kind path (entries ++ entry_of kind d ∷ []) (index + 1) left ∷ []) e h)

-- the item at an index
items_from : (vs : List Value) (index : ℕ) (v : Value) → index < length vs → v ≡ get_or vs index v → items_view (drop index vs) ≡ item (view v) (items_view (drop (index + 1) vs))
items_from vs index v within is = rw (add-one, drop-cons vs index v within, ← is) refl

module _ (kind : ServiceKind) (path : List ℕ) (warned : List (List ℕ)) (vs : List Value) (entries : List ConfigEntry) (warnings : List (List ℕ)) (index : ℕ) (v : Value) (place : List ℕ) where
  pub read_more : (entry : ConfigEntry) → index < length vs → v ≡ get_or vs index v → place ≡ index_at path index
      → IsReadTo kind path warned (items_view vs) entries warnings index (items_view (drop index vs))
      → IsRead (entry_fault kind place entries (view v)) (entry_of kind (view v)) entry
      → is_next_entry kind entries entry ≡ true
      → IsReadTo kind path warned (items_view vs) (entries ++ entry ∷ []) (warnings ++ unused_keys (Entry kind) place (view v)) (index + 1) (items_view (drop (index + 1) vs))
  read_more entry within is stands so_far read next =
      let here = subst (IsReadTo kind path warned (items_view vs) entries warnings index) (items_from vs index v within is) so_far in
      let fine : entry_fault kind (index_at path index) entries (view v) ≡ None = subst (λ p. entry_fault kind p entries (view v) ≡ None) stands read.0 in
      let rules : is_next_entry kind entries (entry_of kind (view v)) ≡ true = subst (λ x. is_next_entry kind entries x ≡ true) read.1 next in
      rw (stands, read.1) (more kind path warned (items_view vs) entries warnings index (view v) _ here fine rules)

  pub read_refused : (e : ConfigFault) → index < length vs → v ≡ get_or vs index v → place ≡ index_at path index
      → IsReadTo kind path warned (items_view vs) entries warnings index (items_view (drop index vs))
      → Refuses config_faults (entry_fault kind place entries (view v)) e → Refuses config_faults (entries_fault kind path [] 0 (items_view vs)) e
  read_refused e within is stands so_far h =
      let here = subst (IsReadTo kind path warned (items_view vs) entries warnings index) (items_from vs index v within is) so_far in
      refused kind path warned (items_view vs) entries warnings index (view v) _ e here (subst (λ p. Refuses config_faults (entry_fault kind p entries (view v)) e) stands h)

-- ---- a list

pub no_entries : (kind : ServiceKind) (entries : List ConfigEntry) → entries ≡ [] → are_entries kind entries ≡ true
unfolding are_entries is_entry_count
no_entries kind entries none = rw none refl

pub some_entries : (kind : ServiceKind) (entries : List ConfigEntry) (count : ℕ) → count ≤ 64 → (length entries ≡ count) × (each_after (is_next_entry kind) [] entries ≡ true) → are_entries kind entries ≡ true
unfolding are_entries is_entry_count
some_entries kind entries count few h = and_from _ _ (le-leb (length entries) 64 (omega (arith, h.0))) h.1

module _ (kind : ServiceKind) (path : List ℕ) (d : Data) (key : List ℕ) (is : key ≡ (row_of kind).list) where
  pub list_refuses : (e : ConfigFault) → Refuses config_faults (list_fault config_faults 0 64 path key d) e → Refuses config_faults (kind_fault path d kind) e
  unfolding kind_fault
  list_refuses e h = first_refuses _ _ e (subst (λ k. Refuses config_faults (list_fault config_faults 0 64 path k d) e) is h)

  pub list_absent : list_fault config_faults 0 64 path key d ≡ None → list_at key d ≡ None → (kind_fault path d kind ≡ None) × (list_of kind d ≡ []) × (list_unused path d kind ≡ [])
  unfolding kind_fault list_of list_unused items_at
  list_absent fine none = let fine = rw is at fine in let none = rw is at none in (rw (fine, none) refl, rw none refl, rw none refl)

  pub list_there : (place : List ℕ) (ds : Items) → place ≡ key_at path key → list_fault config_faults 0 64 path key d ≡ None → list_at key d ≡ Some ds
      → (kind_fault path d kind ≡ entries_fault kind place [] 0 ds) × (list_of kind d ≡ entries_in kind ds) × (list_unused path d kind ≡ entries_unused kind place 0 ds)
  unfolding kind_fault list_of list_unused items_at
  list_there place ds stands fine some =
      let fine = rw is at fine in let some = rw is at some in
      (rw (fine, some, stands, is) (only_later None _ refl), rw some refl, rw (some, stands, is) refl)

-- a list in which nothing is wrong has at most 64 items
few_items : (path : List ℕ) (o : Option Items) (ds : Items) → count_fault config_faults 0 64 path o ≡ None → o ≡ Some ds → items_len ds ≤ 64
few_items path None ds fine e = absurd cc
few_items path (Some xs) ds fine e = by_test (nat_le 0 (items_len xs) && nat_le (items_len xs) 64) refl
  where
    by_test : (b : Bool) → (nat_le 0 (items_len xs) && nat_le (items_len xs) 64) ≡ b → items_len ds ≤ 64
    by_test true t = let same : xs ≡ ds = cc in rw (← same) (leb-true (items_len xs) 64 (and_parts _ _ t).1)
    by_test false t = let wrong = rw t at fine in absurd cc

few_value : (path : List ℕ) (v : Option Data) (ds : Items) → option_and_then (λ d. count_fault config_faults 0 64 path (as_array d)) v ≡ None → option_and_then as_array v ≡ Some ds → items_len ds ≤ 64
few_value path None ds fine e = absurd cc
few_value path (Some d) ds fine e = few_items path (as_array d) ds fine e

pub few_at : (path key : List ℕ) (d : Data) (vs : List Value) → list_fault config_faults 0 64 path key d ≡ None → list_at key d ≡ Some (items_view vs) → length vs ≤ 64
unfolding list_fault
few_at path key d vs fine e = subst (λ n. n ≤ 64) (items_len-items_view vs) (few_value (key_at path key) (get key d) (items_view vs) fine e)

-- ---- the whole

pub reading_refused : (path : List ℕ) (d : Data) (e : ConfigFault) → Refuses config_faults (fault_of path d) e → (e ≡ WantOfMemory) ⊎ (reading_at path d ≡ Err e)
unfolding reading_at
reading_refused path d e (inl memory) = inl memory
reading_refused path d e (inr is) = inr (rw is refl)
