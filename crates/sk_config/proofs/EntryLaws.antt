-- What is written of an entry reads as it.
use Rattle.std.proofs.Common.{◌≡◌, ℕ, ◌+◌, ◌≤◌, Bool, true, false, cond, List, [], ◌∷◌, ◌++◌, length, Option, Some, None, option_map, option_and_then, is_none, bytes_eq, suc, refl, ap, arith}
use Rattle.std.specs.Prelude.{◌||◌, ◌==◌}
use Rattle.std.proofs.lemmas.Bool.{and_parts, false≢true}
use Rattle.serde_json.specs.Data.{string, Members, no_members, items_depth}
use Rattle.serde_json.specs.Find.{get, as_str}
use Rattle.serde_json.specs.Events.{items_len}
use Rattle.serde_json.specs.Written.{items_have_float}
use Rattle.sk_base.specs.Ranges.{is_name}
use Rattle.sk_msg.specs.Each.{each_after}
use Rattle.sk_msg.specs.declared.service.ServiceKind.{ServiceKind}
use Rattle.sk_msg.specs.declared.service.ServiceKind.TheVariants.{Can, Ethernet, Lin, Publisher, Subscriber, Server, Client}
use Rattle.sk_config.specs.Configs.{is_new, is_none_or, is_next_entry}
use Rattle.sk_config.specs.Keys.{row_of, knows, name_key, history_key}
use Rattle.sk_config.specs.Paths.{index_at}
use Rattle.sk_config.specs.Json.{whole, unknown_in, unknown_keys, string_fault, whole_fault, number_fault, object_fault, text_fault, missing_fault}
use Rattle.sk_config.specs.Faults.{config_faults}
use Rattle.sk_config.specs.Reading.{name_of, history_of, entry_of, entries_in, unused_keys, entries_unused, double_fault, history_fault, entry_name_fault, entry_fault, entries_fault}
use Rattle.sk_config.specs.Written.{put_some, history_data, entry_data, entries_data}
use Rattle.sk_config.specs.declared.config.ConfigEntry.{ConfigEntry}
use Rattle.sk_config.specs.declared.fault.ConfigFault.{ConfigFault}
use Rattle.sk_config.specs.declared.keys.Object.TheVariants.{Entry}
use Rattle.sk_config.proofs.FoundLaws.{or_none, found, nothing_unused, IsPlain, IfPlain, none_plain, plain_some}

-- the keys of an entry differ
record AreApart (kind : ServiceKind) : Type 0 where
  name : bytes_eq name_key (row_of kind).target ≡ false
  history : bytes_eq history_key (row_of kind).target ≡ false
  target_name : bytes_eq (row_of kind).target name_key ≡ false
  target_history : bytes_eq (row_of kind).target history_key ≡ false
  target : bytes_eq (row_of kind).target (row_of kind).target ≡ true

apart : (kind : ServiceKind) → AreApart kind
apart Can = record { name = refl; history = refl; target_name = refl; target_history = refl; target = refl }
apart Ethernet = record { name = refl; history = refl; target_name = refl; target_history = refl; target = refl }
apart Lin = record { name = refl; history = refl; target_name = refl; target_history = refl; target = refl }
apart Publisher = record { name = refl; history = refl; target_name = refl; target_history = refl; target = refl }
apart Subscriber = record { name = refl; history = refl; target_name = refl; target_history = refl; target = refl }
apart Server = record { name = refl; history = refl; target_name = refl; target_history = refl; target = refl }
apart Client = record { name = refl; history = refl; target_name = refl; target_history = refl; target = refl }

module _ (kind : ServiceKind) (e : ConfigEntry) where
  name_there : get name_key (entry_data kind e) ≡ Some (string e.name)
  unfolding entry_data
  name_there = let a = apart kind in simp (found, a.name)

  target_there : get (row_of kind).target (entry_data kind e) ≡ option_map string e.target
  unfolding entry_data
  target_there = let a = apart kind in simp (found, a.target_name, a.target_history, a.target, or_none)

  history_there : get history_key (entry_data kind e) ≡ option_map history_data e.history
  unfolding entry_data
  history_there = let a = apart kind in simp (found, a.history, or_none)

text_back : (o : Option (List ℕ)) → option_and_then as_str (option_map string o) ≡ o
text_back None = refl
text_back (Some text) = refl

history_back : (o : Option Bool) → option_map (λ n. n == 1) (option_and_then whole (option_map history_data o)) ≡ o
history_back None = refl
history_back (Some true) = refl
history_back (Some false) = refl

no_history : (has : Bool) (o : Option Bool) → (has || is_none o) ≡ true → cond has o None ≡ o
no_history true o h = refl
no_history false None h = refl
no_history false (Some history) h = absurd (false≢true h)

history_fine : (path : List ℕ) (o : Option Bool) → option_and_then (λ v. whole_fault config_faults 0 1 path (whole v)) (option_map history_data o) ≡ None
history_fine path None = refl
history_fine path (Some true) = refl
history_fine path (Some false) = refl

cond_none : (has : Bool) (fault : Option ConfigFault) → fault ≡ None → cond has fault None ≡ None
cond_none true fault none = none
cond_none false fault none = refl

text_fine : (path : List ℕ) (o : Option (List ℕ)) → is_none_or is_name o ≡ true → option_and_then (λ v. string_fault config_faults is_name path (as_str v)) (option_map string o) ≡ None
text_fine path None fine = refl
text_fine path (Some text) fine = rw fine refl

-- what an entry is, part by part
record IsNext (kind : ServiceKind) (earlier : List ConfigEntry) (e : ConfigEntry) : Type 0 where
  name : is_name e.name ≡ true
  new : is_new earlier e.name ≡ true
  target : is_none_or is_name e.target ≡ true
  history : ((row_of kind).has_history || is_none e.history) ≡ true

parts : (kind : ServiceKind) (earlier : List ConfigEntry) (e : ConfigEntry) → is_next_entry kind earlier e ≡ true → IsNext kind earlier e
unfolding is_next_entry
parts kind earlier e h =
    let one = and_parts _ _ h in
    let two = and_parts _ _ one.1 in
    let three = and_parts _ _ two.1 in
    record { name = one.0; new = two.0; target = three.0; history = three.1 }

knows_name : (kind : ServiceKind) → knows (Entry kind) name_key ≡ true
unfolding knows
knows_name kind = refl

knows_target : (kind : ServiceKind) → knows (Entry kind) (row_of kind).target ≡ true
unfolding knows
knows_target kind = let a = apart kind in rw (a.target_name, a.target) refl

knows_history : (kind : ServiceKind) → (row_of kind).has_history ≡ true → knows (Entry kind) history_key ≡ true
unfolding knows
knows_history kind has = let a = apart kind in rw (a.history, has) refl

-- history is known where it is written
history_unused : (kind : ServiceKind) (path : List ℕ) (has : Bool) (o : Option Bool) (ms : Members) → (row_of kind).has_history ≡ has → (has || is_none o) ≡ true → unknown_in (knows (Entry kind)) path ms ≡ [] → unknown_in (knows (Entry kind)) path (put_some history_key (option_map history_data o) ms) ≡ []
unfolding put_some
history_unused kind path has None ms is h none = none
history_unused kind path true (Some history) ms is h none = nothing_unused (Entry kind) path history_key (Some (history_data history)) ms (knows_history kind is) none
history_unused kind path false (Some history) ms is h none = absurd (false≢true h)

module _ (kind : ServiceKind) (path : List ℕ) (earlier : List ConfigEntry) (e : ConfigEntry) (next : IsNext kind earlier e) where
  entry_name : name_of (entry_data kind e) ≡ e.name
  unfolding name_of
  entry_name = rw (name_there kind e) refl

  entry_value : entry_of kind (entry_data kind e) ≡ e
  unfolding entry_of history_of
  entry_value = rw (entry_name, target_there kind e, history_there kind e, text_back e.target, history_back e.history, no_history (row_of kind).has_history e.history next.history) refl

  entry_unused : unused_keys (Entry kind) path (entry_data kind e) ≡ []
  unfolding unused_keys unknown_keys entry_data
  entry_unused =
      history_unused kind path _ e.history _ refl next.history
      (nothing_unused (Entry kind) path (row_of kind).target (option_map string e.target) _ (knows_target kind)
      (nothing_unused (Entry kind) path name_key (Some (string e.name)) no_members (knows_name kind) refl))

  is_object : object_fault config_faults path (entry_data kind e) ≡ None
  unfolding object_fault entry_data
  is_object = refl

  is_named : entry_name_fault path earlier (entry_data kind e) ≡ None
  unfolding entry_name_fault text_fault missing_fault double_fault
  is_named = rw (name_there kind e, next.name, entry_name, next.new) refl

  is_target : text_fault config_faults is_name path (row_of kind).target (entry_data kind e) ≡ None
  unfolding text_fault
  is_target = rw (target_there kind e) (text_fine _ e.target next.target)

  is_history : history_fault kind path (entry_data kind e) ≡ None
  unfolding history_fault number_fault
  is_history = rw (history_there kind e) (cond_none (row_of kind).has_history _ (history_fine _ e.history))

  entry_fault_none : entry_fault kind path earlier (entry_data kind e) ≡ None
  unfolding entry_fault
  entry_fault_none = rw (is_object, is_named, is_target, is_history) refl

-- ---- the entries of a list

pub count_back : (kind : ServiceKind) (es : List ConfigEntry) → items_len (entries_data kind es) ≡ length es
count_back kind [] = refl
count_back kind (e ∷ es) = ap suc (count_back kind es)

pub entries_back : (kind : ServiceKind) (earlier es : List ConfigEntry) → each_after (is_next_entry kind) earlier es ≡ true → entries_in kind (entries_data kind es) ≡ es
entries_back kind earlier [] h = refl
entries_back kind earlier (e ∷ es) h =
    let both = and_parts _ _ h in
    rw (entry_value kind [] earlier e (parts kind earlier e both.0), entries_back kind (earlier ++ e ∷ []) es both.1) refl

pub entries_unused_none : (kind : ServiceKind) (path : List ℕ) (index : ℕ) (earlier es : List ConfigEntry) → each_after (is_next_entry kind) earlier es ≡ true → entries_unused kind path index (entries_data kind es) ≡ []
entries_unused_none kind path index earlier [] h = refl
entries_unused_none kind path index earlier (e ∷ es) h =
    let both = and_parts _ _ h in
    rw (entry_unused kind (index_at path index) earlier e (parts kind earlier e both.0), entries_unused_none kind path (index + 1) (earlier ++ e ∷ []) es both.1) refl

pub entries_fault_none : (kind : ServiceKind) (path : List ℕ) (index : ℕ) (earlier es : List ConfigEntry) → each_after (is_next_entry kind) earlier es ≡ true → entries_fault kind path earlier index (entries_data kind es) ≡ None
entries_fault_none kind path index earlier [] h = refl
entries_fault_none kind path index earlier (e ∷ es) h =
    let both = and_parts _ _ h in
    let next = parts kind earlier e both.0 in
    rw (entry_fault_none kind (index_at path index) earlier e next, entry_value kind [] earlier e next, entries_fault_none kind path (index + 1) (earlier ++ e ∷ []) es both.1) refl

-- ---- they are plain

plain_text : (n : ℕ) (o : Option (List ℕ)) → IfPlain n (option_map string o)
plain_text n None = tt
plain_text n (Some text) = record { shallow = omega arith; whole = refl }

plain_history : (n : ℕ) (o : Option Bool) → IfPlain n (option_map history_data o)
plain_history n None = tt
plain_history n (Some history) = record { shallow = omega arith; whole = refl }

plain_entry : (kind : ServiceKind) (e : ConfigEntry) → IsPlain 1 (entry_data kind e)
unfolding entry_data
plain_entry kind e =
    let ms = plain_some 0 history_key _ _ (plain_history 0 e.history) (plain_some 0 (row_of kind).target _ _ (plain_text 0 e.target) (plain_some 0 name_key (Some (string e.name)) no_members (plain_text 0 (Some e.name)) (none_plain 0))) in
    record { shallow = omega (arith, ms.shallow); whole = ms.whole }

pub plain_entries : (kind : ServiceKind) (es : List ConfigEntry) → (items_depth (entries_data kind es) ≤ 1) × (items_have_float (entries_data kind es) ≡ false)
plain_entries kind [] = (omega arith, refl)
plain_entries kind (e ∷ es) =
    let here = plain_entry kind e in
    let later = plain_entries kind es in
    (omega (arith, here.shallow, later.0), rw (here.whole, later.1) refl)
