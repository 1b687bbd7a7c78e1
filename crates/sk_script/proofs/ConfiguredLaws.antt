-- Services that a configuration overrode are still those that a participant may have, with the same numbers, names and kinds.
use Rattle.std.proofs.Common.{◌≡◌, ℕ, Bool, true, false, List, [], ◌∷◌, ◌++◌, map, Option, Some, None, refl, sym, subst}
use Rattle.std.specs.Prelude.{◌&&◌, ◌||◌, not, nat_le, find, is_none, unwrap_or}
use Rattle.std.specs.List.{list_any, list_all}
use Rattle.std.specs.Str.{bytes_eq}
use Rattle.std.proofs.lemmas.Bool.{and_from, and_parts}
use Rattle.std.proofs.lemmas.List.{length-map, map-append}
use Rattle.sk_base.specs.Ranges.{is_name}
use Rattle.sk_msg.specs.Each.{each_after}
use Rattle.sk_msg.specs.declared.service.Service.{Service}
use Rattle.sk_msg.specs.declared.service.ServiceKind.{ServiceKind}
use Rattle.sk_msg.specs.declared.service.ServiceKind.TheVariants.{Can, Ethernet, Lin, Publisher, Subscriber, Server, Client}
use Rattle.sk_config.specs.Applied.{entry_for, overridden_by, overridden}
use Rattle.sk_config.specs.Configs.{ConfigValue, entries_of, is_none_or, is_next_entry, are_entries, is_config, is_address}
use Rattle.sk_config.specs.Keys.{kinds, row_of}
use Rattle.sk_config.specs.declared.config.ConfigEntry.{ConfigEntry}
use Rattle.sk_rules.specs.Places.{is_next_own}
use Rattle.sk_rules.specs.Scripts.{is_own}
use Rattle.sk_script.specs.Keys.{has_history}
use Rattle.sk_script.specs.Services.{is_spec, is_next_service, are_services}

-- ---- what a configuration's entries keep

history_same : (kind : ServiceKind) → (row_of kind).has_history ≡ has_history kind
history_same Can = refl
history_same Ethernet = refl
history_same Lin = refl
history_same Publisher = refl
history_same Subscriber = refl
history_same Server = refl
history_same Client = refl

module _ (test : ServiceKind → Bool) (kind : ServiceKind) (later : List ServiceKind) (all : list_all test (kind ∷ later) ≡ true) where
  the_first : test kind ≡ true
  the_first = (and_parts (test kind) (list_all test later) all).0

  the_rest : list_all test later ≡ true
  the_rest = (and_parts (test kind) (list_all test later) all).1

by_kind : (test : ServiceKind → Bool) (kind : ServiceKind) → list_all test kinds ≡ true → test kind ≡ true
by_kind test Can all = the_first test Can (Ethernet ∷ Lin ∷ Publisher ∷ Subscriber ∷ Server ∷ Client ∷ []) all
by_kind test Ethernet all = the_first test Ethernet (Lin ∷ Publisher ∷ Subscriber ∷ Server ∷ Client ∷ []) (the_rest test Can (Ethernet ∷ Lin ∷ Publisher ∷ Subscriber ∷ Server ∷ Client ∷ []) all)
by_kind test Lin all = the_first test Lin (Publisher ∷ Subscriber ∷ Server ∷ Client ∷ []) (the_rest test Ethernet (Lin ∷ Publisher ∷ Subscriber ∷ Server ∷ Client ∷ []) (the_rest test Can (Ethernet ∷ Lin ∷ Publisher ∷ Subscriber ∷ Server ∷ Client ∷ []) all))
by_kind test Publisher all = the_first test Publisher (Subscriber ∷ Server ∷ Client ∷ []) (the_rest test Lin (Publisher ∷ Subscriber ∷ Server ∷ Client ∷ []) (the_rest test Ethernet (Lin ∷ Publisher ∷ Subscriber ∷ Server ∷ Client ∷ []) (the_rest test Can (Ethernet ∷ Lin ∷ Publisher ∷ Subscriber ∷ Server ∷ Client ∷ []) all)))
by_kind test Subscriber all = the_first test Subscriber (Server ∷ Client ∷ []) (the_rest test Publisher (Subscriber ∷ Server ∷ Client ∷ []) (the_rest test Lin (Publisher ∷ Subscriber ∷ Server ∷ Client ∷ []) (the_rest test Ethernet (Lin ∷ Publisher ∷ Subscriber ∷ Server ∷ Client ∷ []) (the_rest test Can (Ethernet ∷ Lin ∷ Publisher ∷ Subscriber ∷ Server ∷ Client ∷ []) all))))
by_kind test Server all = the_first test Server (Client ∷ []) (the_rest test Subscriber (Server ∷ Client ∷ []) (the_rest test Publisher (Subscriber ∷ Server ∷ Client ∷ []) (the_rest test Lin (Publisher ∷ Subscriber ∷ Server ∷ Client ∷ []) (the_rest test Ethernet (Lin ∷ Publisher ∷ Subscriber ∷ Server ∷ Client ∷ []) (the_rest test Can (Ethernet ∷ Lin ∷ Publisher ∷ Subscriber ∷ Server ∷ Client ∷ []) all)))))
by_kind test Client all = the_first test Client [] (the_rest test Server (Client ∷ []) (the_rest test Subscriber (Server ∷ Client ∷ []) (the_rest test Publisher (Subscriber ∷ Server ∷ Client ∷ []) (the_rest test Lin (Publisher ∷ Subscriber ∷ Server ∷ Client ∷ []) (the_rest test Ethernet (Lin ∷ Publisher ∷ Subscriber ∷ Server ∷ Client ∷ []) (the_rest test Can (Ethernet ∷ Lin ∷ Publisher ∷ Subscriber ∷ Server ∷ Client ∷ []) all))))))

entries_are : (config : ConfigValue) (kind : ServiceKind) → is_config config ≡ true → are_entries kind (entries_of config kind) ≡ true
unfolding is_config
entries_are config kind h =
    let rest : (list_all (λ one. are_entries one (entries_of config one)) kinds && is_none_or is_address config.registry_uri) ≡ true = (and_parts _ _ h).1 in
    by_kind (λ one. are_entries one (entries_of config one)) kind (and_parts _ _ rest).0

-- an entry names a target only by a name, and a history only where its kind has one
abbrev IsFine : ServiceKind → ConfigEntry → Type 0
IsFine kind entry = (is_none_or is_name entry.target ≡ true) × ((has_history kind || is_none entry.history) ≡ true)

next_fine : (kind : ServiceKind) (before : List ConfigEntry) (entry : ConfigEntry) → is_next_entry kind before entry ≡ true → IsFine kind entry
unfolding is_next_entry
next_fine kind before entry h =
    let rest = and_parts _ _ (and_parts _ _ (and_parts _ _ h).1).1 in
    (rest.0, subst (λ (b : Bool). (b || is_none entry.history) ≡ true) (history_same kind) rest.1)

some_is : (x y : ConfigEntry) → Some x ≡ Some y → x ≡ y
some_is x y h = cc

found_fine : (kind : ServiceKind) (test : ConfigEntry → Bool) (before entries : List ConfigEntry) (entry : ConfigEntry)
    → each_after (is_next_entry kind) before entries ≡ true → find test entries ≡ Some entry → IsFine kind entry
found_fine kind test before [] entry all e = absurd cc
found_fine kind test before (first ∷ entries) entry all e = by_test (test first) refl (λ later. found_fine kind test (before ++ first ∷ []) entries entry (and_parts _ _ all).1 later)
  where
    by_test : (b : Bool) → test first ≡ b → (find test entries ≡ Some entry → IsFine kind entry) → IsFine kind entry
    by_test true t rest = subst (IsFine kind) (some_is first entry (rw t at e)) (next_fine kind before first (and_parts _ _ all).0)
    by_test false t rest = rest (rw t at e)

entry_fine : (config : ConfigValue) (service : Service) (entry : ConfigEntry) → is_config config ≡ true → entry_for config service ≡ Some entry → IsFine service.kind entry
unfolding entry_for are_entries
entry_fine config service entry h e = found_fine service.kind _ [] (entries_of config service.kind) entry (and_parts _ _ (entries_are config service.kind h)).1 e

-- ---- a service that was overridden

module _ (config : ConfigValue) (service : Service) where
  pub same_id : (overridden config service).id ≡ service.id
  unfolding overridden
  same_id = by_entry (entry_for config service)
    where
      by_entry : (o : Option ConfigEntry) → (overridden_by o service).id ≡ service.id
      by_entry None = refl
      by_entry (Some entry) = refl

  pub same_kind : (overridden config service).kind ≡ service.kind
  unfolding overridden
  same_kind = by_entry (entry_for config service)
    where
      by_entry : (o : Option ConfigEntry) → (overridden_by o service).kind ≡ service.kind
      by_entry None = refl
      by_entry (Some entry) = refl

  pub same_name : (overridden config service).name ≡ service.name
  unfolding overridden
  same_name = by_entry (entry_for config service)
    where
      by_entry : (o : Option ConfigEntry) → (overridden_by o service).name ≡ service.name
      by_entry None = refl
      by_entry (Some entry) = refl

  spec_kept : is_config config ≡ true → is_spec service.kind service.spec ≡ true → is_spec service.kind (overridden config service).spec ≡ true
  unfolding overridden is_spec
  spec_kept h fine = by_entry (entry_for config service) refl
    where
      by_target : (o : Option (List ℕ)) → is_none_or is_name o ≡ true → is_name (unwrap_or o service.spec.topic) ≡ true
      by_target None t = (and_parts _ _ fine).0
      by_target (Some text) t = t

      by_entry : (o : Option ConfigEntry) → entry_for config service ≡ o → is_spec service.kind (overridden_by o service).spec ≡ true
      by_entry None e = fine
      by_entry (Some entry) e = and_from _ _ (by_target entry.target (entry_fine config service entry h e).0) (and_parts _ _ fine).1

  history_kept : is_config config ≡ true → (has_history service.kind || not service.history) ≡ true → (has_history service.kind || not (overridden config service).history) ≡ true
  unfolding overridden
  history_kept h fine = by_entry (entry_for config service) refl
    where
      by_kind : (b : Bool) (o : Option Bool) → (b || is_none o) ≡ true → (b || not service.history) ≡ true → (b || not (unwrap_or o service.history)) ≡ true
      by_kind true o t f = refl
      by_kind false None t f = f
      by_kind false (Some history) t f = absurd cc

      by_entry : (o : Option ConfigEntry) → entry_for config service ≡ o → (has_history service.kind || not (overridden_by o service).history) ≡ true
      by_entry None e = fine
      by_entry (Some entry) e = by_kind (has_history service.kind) entry.history (entry_fine config service entry h e).1 fine

-- ---- the services of a participant

module _ (config : ConfigValue) where
  names_same : (name : List ℕ) (services : List Service) → list_any (λ other. bytes_eq other.name name) (map (overridden config) services) ≡ list_any (λ other. bytes_eq other.name name) services
  names_same name [] = refl
  names_same name (service ∷ services) = rw (same_name config service, names_same name services) refl

  own_kept : (before : List Service) (service : Service) → is_next_own before service ≡ true → is_next_own (map (overridden config) before) (overridden config service) ≡ true
  unfolding is_next_own
  own_kept before service own = rw (same_id config service, same_name config service, length-map before (overridden config), names_same service.name before) own

  next_kept : (before : List Service) (service : Service) → is_config config ≡ true → is_next_service before service ≡ true → is_next_service (map (overridden config) before) (overridden config service) ≡ true
  unfolding is_next_service
  next_kept before service h fine =
      let both = and_parts _ _ fine in
      let rest = and_parts _ _ both.1 in
      let more = and_parts _ _ rest.1 in
      let name : is_name (overridden config service).name ≡ true = rw (same_name config service) rest.0 in
      let spec : is_spec (overridden config service).kind (overridden config service).spec ≡ true = rw (same_kind config service) (spec_kept config service h more.0) in
      let history : (has_history (overridden config service).kind || not (overridden config service).history) ≡ true = rw (same_kind config service) (history_kept config service h more.1) in
      and_from _ _ (own_kept before service both.0) (and_from _ _ name (and_from _ _ spec history))

  each_kept : (before services : List Service) → is_config config ≡ true → each_after is_next_service before services ≡ true → each_after is_next_service (map (overridden config) before) (map (overridden config) services) ≡ true
  each_kept before [] h all = refl
  each_kept before (service ∷ services) h all =
      let both = and_parts _ _ all in
      and_from _ _ (next_kept before service h both.0)
      (subst (λ (xs : List Service). each_after is_next_service xs (map (overridden config) services) ≡ true) (map-append (overridden config) before (service ∷ []))
      (each_kept (before ++ service ∷ []) services h both.1))

  pub services_kept : (services : List Service) → is_config config ≡ true → are_services services ≡ true → are_services (map (overridden config) services) ≡ true
  unfolding are_services
  services_kept services h fine =
      let both = and_parts _ _ fine in
      and_from _ _ (subst (λ (n : ℕ). nat_le n 64 ≡ true) (sym (length-map services (overridden config))) both.0) (each_kept [] services h both.1)

  -- the same ones are there
  pub own_same : (fits : ServiceKind → Bool) (services : List Service) (id : ℕ) → is_own fits (map (overridden config) services) id ≡ is_own fits services id
  own_same fits [] id = refl
  own_same fits (service ∷ services) id = rw (same_id config service, same_kind config service, own_same fits services id) refl
