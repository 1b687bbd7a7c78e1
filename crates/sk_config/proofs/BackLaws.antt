-- What is written of a configuration reads as it.
use Rattle.std.proofs.Common.{◌≡◌, ℕ, ◌≤◌, true, false, List, [], ◌∷◌, length, Option, Some, None, Ok, option_map, option_and_then, unwrap_or, refl, sym, arith}
use Rattle.std.specs.Prelude.{IsTrue}
use Rattle.std.specs.Str.{IsUtf8}
use Rattle.std.proofs.lemmas.Bool.{and_parts, leb-true, le-leb}
use Rattle.serde_json.specs.Data.{Data, string, Members, no_items, no_members, depth}
use Rattle.serde_json.specs.Find.{get, as_str, as_array}
use Rattle.serde_json.specs.Read.{read, max_depth}
use Rattle.serde_json.specs.Written.{has_float}
use Rattle.sk_base.specs.Ranges.{is_name}
use Rattle.sk_msg.specs.Each.{each_after}
use Rattle.sk_msg.specs.declared.service.ServiceKind.{ServiceKind}
use Rattle.sk_msg.specs.declared.service.ServiceKind.TheVariants.{Can, Ethernet, Lin, Publisher, Subscriber, Server, Client}
use Rattle.sk_config.specs.Configs.{ConfigValue, entries_of, is_none_or, is_address, is_next_entry, is_entry_count, are_entries, is_config}
use Rattle.sk_config.specs.Keys.{kinds, row_of, is_list_key, knows, participant_name_key, middleware_key, registry_uri_key}
use Rattle.sk_config.specs.Json.{text_at, items_at, unknown_in, unknown_keys, string_fault, object_fault, text_fault, count_fault, list_fault}
use Rattle.sk_config.specs.Faults.{config_faults}
use Rattle.sk_config.specs.Reading.{list_of, uri_of, unused_keys, list_unused, middleware_unused, all_unused, not_used, warnings_of, entries_fault, kind_fault, middleware_fault_at, middleware_fault, reading_at, reading}
use Rattle.sk_config.specs.Paths.{key_at}
use Rattle.sk_config.specs.Written.{list_data, put_lists, entries_data, middleware_data, config_data}
use Rattle.sk_config.specs.declared.config.ConfigEntry.{ConfigEntry}
use Rattle.sk_config.specs.declared.keys.Object.TheVariants.{Root, Middleware}
use Rattle.sk_config.proofs.EntryLaws.{count_back, entries_back, entries_unused_none, entries_fault_none, plain_entries}
use Rattle.sk_config.proofs.FoundLaws.{or_none, found, nothing_unused, IsPlain, ArePlain, IfPlain, none_plain, plain_some}
use Rattle.sk_config.proofs.JsonLaws.{json_of-text}
use Rattle.sk_config.proofs.WholeLaws.{ForKinds, no_fault, says_all, reading_is}

-- ---- what is found at each key

module _ (c : ConfigValue) where
  name_there : get participant_name_key (config_data c) ≡ option_map string c.participant_name
  unfolding config_data
  name_there = simp (found, or_none)

  middleware_there : get middleware_key (config_data c) ≡ option_map middleware_data c.registry_uri
  unfolding config_data
  middleware_there = simp (found, or_none)

  list_there : (kind : ServiceKind) → get (row_of kind).list (config_data c) ≡ list_data kind (entries_of c kind)
  unfolding config_data
  list_there Can = simp (found, or_none)
  list_there Ethernet = simp (found, or_none)
  list_there Lin = simp (found, or_none)
  list_there Publisher = simp (found, or_none)
  list_there Subscriber = simp (found, or_none)
  list_there Server = simp (found, or_none)
  list_there Client = simp (found, or_none)

uri_there : (uri : List ℕ) → get registry_uri_key (middleware_data uri) ≡ Some (string uri)
unfolding middleware_data
uri_there uri = simp (found, or_none)

-- ---- the list of a kind

few : (kind : ServiceKind) (es : List ConfigEntry) → are_entries kind es ≡ true → (length es ≤ 64) × (each_after (is_next_entry kind) [] es ≡ true)
unfolding are_entries is_entry_count
few kind es h = let both = and_parts _ _ h in (leb-true (length es) 64 both.0, both.1)

items_there : (kind : ServiceKind) (es : List ConfigEntry) → unwrap_or (option_and_then as_array (list_data kind es)) no_items ≡ entries_data kind es
items_there kind [] = refl
items_there kind (e ∷ es) = refl

count_fine : (kind : ServiceKind) (path : List ℕ) (es : List ConfigEntry) → length es ≤ 64
    → option_and_then (λ v. count_fault config_faults 0 64 path (as_array v)) (list_data kind es) ≡ None
count_fine kind path [] h = refl
count_fine kind path (e ∷ es) h =
    rw (count_back kind (e ∷ es), le-leb (length (e ∷ es)) 64 h, le-leb 0 (length (e ∷ es)) (omega arith)) refl

list_fine : (kind : ServiceKind) (path : List ℕ) (es : List ConfigEntry) (d : Data) → get (row_of kind).list d ≡ list_data kind es → length es ≤ 64
    → list_fault config_faults 0 64 path (row_of kind).list d ≡ None
unfolding list_fault
list_fine kind path es d there h = rw there (count_fine kind _ es h)

module _ (path : List ℕ) (c : ConfigValue) (kind : ServiceKind) (rules : are_entries kind (entries_of c kind) ≡ true) where
  list_fault_none : kind_fault path (config_data c) kind ≡ None
  unfolding kind_fault items_at
  list_fault_none =
      let kept = few kind (entries_of c kind) rules in
      rw (
        list_fine kind path (entries_of c kind) (config_data c) (list_there c kind) kept.0,
        list_there c kind,
        items_there kind (entries_of c kind),
        entries_fault_none kind (key_at path (row_of kind).list) 0 [] (entries_of c kind) kept.1,
      ) refl

  list_back : entries_of c kind ≡ list_of kind (config_data c)
  unfolding list_of items_at
  list_back = sym (rw (list_there c kind, items_there kind (entries_of c kind)) (entries_back kind [] (entries_of c kind) (few kind _ rules).1))

  list_unused_none : list_unused path (config_data c) kind ≡ []
  unfolding list_unused items_at
  list_unused_none = rw (list_there c kind, items_there kind (entries_of c kind)) (entries_unused_none kind _ 0 [] (entries_of c kind) (few kind _ rules).1)

-- ---- the middleware, and the name

uri_fine : (path : List ℕ) (uri : List ℕ) → is_address uri ≡ true → middleware_fault_at path (middleware_data uri) ≡ None
unfolding object_fault text_fault middleware_data
uri_fine path uri fine = rw (uri_there uri, fine) refl

middleware_fine : (path : List ℕ) (o : Option (List ℕ)) → is_none_or is_address o ≡ true → option_and_then (middleware_fault_at path) (option_map middleware_data o) ≡ None
middleware_fine path None fine = refl
middleware_fine path (Some uri) fine = uri_fine path uri fine

uri_back : (o : Option (List ℕ)) → option_and_then (text_at registry_uri_key) (option_map middleware_data o) ≡ o
uri_back None = refl
uri_back (Some uri) = rw (uri_there uri) refl

knows_uri : knows Middleware registry_uri_key ≡ true
unfolding knows
knows_uri = refl

uri_unused : (path uri : List ℕ) → unused_keys Middleware path (middleware_data uri) ≡ []
unfolding unused_keys unknown_keys middleware_data
uri_unused path uri = nothing_unused Middleware path registry_uri_key (Some (string uri)) no_members knows_uri refl

middleware_quiet : (path : List ℕ) (o : Option (List ℕ)) → unwrap_or (option_map (unused_keys Middleware path) (option_map middleware_data o)) [] ≡ []
middleware_quiet path None = refl
middleware_quiet path (Some uri) = uri_unused path uri

name_fine : (path : List ℕ) (o : Option (List ℕ)) → is_none_or is_name o ≡ true → option_and_then (λ v. string_fault config_faults is_name path (as_str v)) (option_map string o) ≡ None
name_fine path None fine = refl
name_fine path (Some name) fine = rw fine refl

text_back : (o : Option (List ℕ)) → option_and_then as_str (option_map string o) ≡ o
text_back None = refl
text_back (Some text) = refl

-- ---- the root

knows_list : (kind : ServiceKind) → knows Root (row_of kind).list ≡ true
unfolding knows is_list_key
knows_list Can = refl
knows_list Ethernet = refl
knows_list Lin = refl
knows_list Publisher = refl
knows_list Subscriber = refl
knows_list Server = refl
knows_list Client = refl

knows_name : knows Root participant_name_key ≡ true
unfolding knows is_list_key
knows_name = refl

knows_middleware : knows Root middleware_key ≡ true
unfolding knows is_list_key
knows_middleware = refl

lists_unused : (path : List ℕ) (c : ConfigValue) (ks : List ServiceKind) (ms : Members) → unknown_in (knows Root) path ms ≡ [] → unknown_in (knows Root) path (put_lists c ks ms) ≡ []
lists_unused path c [] ms none = none
lists_unused path c (kind ∷ ks) ms none = lists_unused path c ks _ (nothing_unused Root path (row_of kind).list (list_data kind (entries_of c kind)) ms (knows_list kind) none)

module _ (path : List ℕ) (c : ConfigValue) where
  root_unused : unused_keys Root path (config_data c) ≡ []
  unfolding unused_keys unknown_keys config_data
  root_unused =
      nothing_unused Root path middleware_key _ _ knows_middleware
      (lists_unused path c kinds _ (nothing_unused Root path participant_name_key (option_map string c.participant_name) no_members knows_name refl))

  root_object : object_fault config_faults path (config_data c) ≡ None
  unfolding object_fault config_data
  root_object = refl

  root_name : is_none_or is_name c.participant_name ≡ true → text_fault config_faults is_name path participant_name_key (config_data c) ≡ None
  unfolding text_fault
  root_name fine = rw (name_there c) (name_fine _ c.participant_name fine)

  root_middleware : is_none_or is_address c.registry_uri ≡ true → middleware_fault path (config_data c) ≡ None
  unfolding middleware_fault
  root_middleware fine = rw (middleware_there c) (middleware_fine _ c.registry_uri fine)

  uri_read : c.registry_uri ≡ uri_of (config_data c)
  unfolding uri_of
  uri_read = sym (rw (middleware_there c) (uri_back c.registry_uri))

  name_read : c.participant_name ≡ text_at participant_name_key (config_data c)
  name_read = sym (rw (name_there c) (text_back c.participant_name))

  middleware_none : middleware_unused path (config_data c) ≡ []
  unfolding middleware_unused
  middleware_none = rw (middleware_there c) (middleware_quiet _ c.registry_uri)

-- what each configuration keeps
record IsKept (c : ConfigValue) : Type 0 where
  name : is_none_or is_name c.participant_name ≡ true
  lists : ForKinds (λ kind. are_entries kind (entries_of c kind) ≡ true)
  uri : is_none_or is_address c.registry_uri ≡ true

kept : (c : ConfigValue) → is_config c ≡ true → IsKept c
unfolding is_config
kept c h =
    let one = and_parts _ _ h in
    let two = and_parts _ _ one.1 in
    let can = and_parts _ _ two.0 in
    let ethernet = and_parts _ _ can.1 in
    let lin = and_parts _ _ ethernet.1 in
    let publishers = and_parts _ _ lin.1 in
    let subscribers = and_parts _ _ publishers.1 in
    let servers = and_parts _ _ subscribers.1 in
    let clients = and_parts _ _ servers.1 in
    record { name = one.0; lists = (can.0, ethernet.0, lin.0, publishers.0, subscribers.0, servers.0, clients.0); uri = two.1 }

no_warnings : (path : List ℕ) (c : ConfigValue) → IsKept c → [] ≡ warnings_of path (config_data c)
unfolding warnings_of all_unused
no_warnings path c k =
    let list = list_unused_none path c in
    sym (rw (root_unused path c, list Can k.lists.0, list Ethernet k.lists.1, list Lin k.lists.2, list Publisher k.lists.3, list Subscriber k.lists.4, list Server k.lists.5, list Client k.lists.6, middleware_none path c) refl)

-- it reads as itself, without a fault and without a warning
pub config_back : (path : List ℕ) (c : ConfigValue) → IsTrue (is_config c) → reading_at path (config_data c) ≡ Ok (record { config = c; warnings = [] })
config_back path c h =
    let k = kept c h in
    let d = config_data c in
    let fault = list_fault_none path c in
    let list = list_back path c in
    reading_is path d c []
    (no_fault path d (root_object path c) (root_name path c k.name)
    (fault Can k.lists.0, fault Ethernet k.lists.1, fault Lin k.lists.2, fault Publisher k.lists.3, fault Subscriber k.lists.4, fault Server k.lists.5, fault Client k.lists.6)
    (root_middleware path c k.uri))
    (says_all path d _ _ _ _ _ _ _ _ _ (name_read path c)
    (list Can k.lists.0, list Ethernet k.lists.1, list Lin k.lists.2, list Publisher k.lists.3, list Subscriber k.lists.4, list Server k.lists.5, list Client k.lists.6)
    (uri_read path c))
    (no_warnings path c k)

-- ---- its text

plain_list : (kind : ServiceKind) (es : List ConfigEntry) → IfPlain 2 (list_data kind es)
plain_list kind [] = tt
plain_list kind (e ∷ es) = let p = plain_entries kind (e ∷ es) in record { shallow = omega (arith, p.0); whole = p.1 }

plain_lists : (c : ConfigValue) (ks : List ServiceKind) (ms : Members) → ArePlain 2 ms → ArePlain 2 (put_lists c ks ms)
plain_lists c [] ms p = p
plain_lists c (kind ∷ ks) ms p = plain_lists c ks _ (plain_some 2 (row_of kind).list _ ms (plain_list kind (entries_of c kind)) p)

plain_uri : (uri : List ℕ) → IsPlain 2 (middleware_data uri)
unfolding middleware_data
plain_uri uri =
    let ms = plain_some 0 registry_uri_key (Some (string uri)) no_members (record { shallow = omega arith; whole = refl }) (none_plain 0) in
    record { shallow = omega (arith, ms.shallow); whole = ms.whole }

plain_middleware : (o : Option (List ℕ)) → IfPlain 2 (option_map middleware_data o)
plain_middleware None = tt
plain_middleware (Some uri) = plain_uri uri

plain_name : (o : Option (List ℕ)) → IfPlain 2 (option_map string o)
plain_name None = tt
plain_name (Some name) = record { shallow = omega arith; whole = refl }

pub plain_config : (c : ConfigValue) → (depth (config_data c) ≤ max_depth) × (has_float (config_data c) ≡ false)
unfolding config_data
plain_config c =
    let ms = plain_some 2 middleware_key _ _ (plain_middleware c.registry_uri) (plain_lists c kinds _ (plain_some 2 participant_name_key _ no_members (plain_name c.participant_name) (none_plain 2))) in
    (omega (arith, ms.shallow), ms.whole)

-- bytes whose JSON is what is written of a configuration
pub bytes_back : (c : ConfigValue) (bytes : List ℕ) → IsTrue (is_config c) → IsUtf8 bytes → read bytes ≡ Some (config_data c) → reading bytes ≡ Ok (record { config = c; warnings = [] })
unfolding reading
bytes_back c bytes rules utf8 reads = rw (json_of-text bytes (Some (config_data c)) utf8 reads) (config_back [] c rules)
