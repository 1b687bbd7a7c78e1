-- What is written of a service reads as it.
use Rattle.std.proofs.Common.{◌≡◌, ℕ, Bool, true, false, List, [], ◌∷◌, length, Option, Some, None, Ok, is_none, refl, sym, ap, ◌∙◌, arith}
use Rattle.std.specs.Prelude.{◌&&◌, ◌||◌, ◌==◌, not, nat_le, unwrap_or, if◌then◌else◌}
use Rattle.std.specs.List.{list_any}
use Rattle.std.specs.Str.{bytes_eq}
use Rattle.std.proofs.lemmas.Slice.Eq.{bytes_eq-Decides}
use Rattle.std.proofs.lemmas.Bool.{and_from, and_parts, false≢true, eqb-true}
use Rattle.serde_json.specs.Data.{Data, Items}
use Rattle.serde_json.specs.Find.{get}
use Rattle.sk_base.specs.Ranges.{is_name, is_text}
use Rattle.sk_msg.specs.Rules.{is_new_label}
use Rattle.sk_msg.specs.Specs.{SpecValue, is_label_count}
use Rattle.sk_msg.specs.declared.label.Label.{Label}
use Rattle.sk_msg.specs.declared.label.LabelKind.{LabelKind}
use Rattle.sk_msg.specs.declared.label.LabelKind.TheVariants as label_kinds
use Rattle.sk_msg.specs.declared.service.Service.{Service}
use Rattle.sk_msg.specs.declared.service.ServiceKind.{ServiceKind}
use Rattle.sk_msg.specs.declared.service.ServiceKind.TheVariants.{Can, Ethernet, Lin, Publisher, Subscriber, Server, Client}
use Rattle.sk_config.specs.Paths.{key_at}
use Rattle.sk_rules.specs.Fields.{text_read}
use Rattle.sk_rules.specs.Outcome.{◌>>=◌}
use Rattle.sk_rules.specs.Places.{is_next_own}
use Rattle.sk_rules.specs.Words.{service_kind_of, label_kind_of}
use Rattle.sk_script.specs.Keys.{knows, is_of_kind, is_bus, has_history, target_key, name_key, kind_key, network_key, media_key, labels_key, history_key, key_key, value_key}
use Rattle.sk_script.specs.Services.{are_labels, is_spec, is_next_service, are_services, label_read, labels_read, kind_in, new_name_read, network_read, media_read, bus_spec_read, full_spec_read, spec_read, history_given, history_read, service_read, services_in}
use Rattle.sk_script.specs.declared.keys.Object.TheVariants as objects
use Rattle.sk_script_text.specs.Objects.{Field, with_fields, text, some_text, list, items}
use Rattle.sk_script_text.specs.Services.{label_data, target_data, history_data, service_data}
use Rattle.sk_script_text.specs.Words.{kind_word, label_word}
use Rattle.sk_script_text.proofs.FieldLaws.{or_none, get_of, are_known, enters}
use Rattle.sk_script_text.proofs.ListLaws.{count_back, items_back}
use Rattle.sk_script_text.proofs.ValueLaws.{text_back, no_text_back, needed_text_back, needed_word_back, number_back, no_number_back, some_list_back, list_or}

-- ---- labels

label_kind_back : (kind : LabelKind) → label_kind_of (label_word kind) ≡ Some kind
unfolding label_kind_of
label_kind_back label_kinds.Optional = refl
label_kind_back label_kinds.Mandatory = refl

label_back : (path : List ℕ) (earlier : List Label) (label : Label) → is_new_label earlier label ≡ true → label_read path earlier (label_data label) ≡ Ok label
unfolding label_read label_data knows
label_back path earlier label h =
    let p = and_parts _ _ h in
    let key = and_parts _ _ p.0 in
    let said = and_parts _ _ p.1 in
    let fields : List Field =
    record { key = key_key; value = text label.key } ∷ record { key = kind_key; value = text (label_word label.kind) } ∷ record { key = value_key; value = text label.value } ∷ [] in
    let d = with_fields fields in
    rw (
      enters (knows objects.Label) path fields refl,
      needed_text_back path key_key d is_name label.key (get_of key_key fields) key.0,
      key.1,
      needed_text_back path value_key d is_text label.value (get_of value_key fields) said.0,
      needed_word_back path kind_key d label_kind_of (label_word label.kind) label.kind (get_of kind_key fields) (label_kind_back label.kind),
    ) refl

labels_back : (path : List ℕ) (d : Data) (labels : List Label) → are_labels labels ≡ true → get labels_key d ≡ list (items label_data labels) → labels_read path d ≡ Ok labels
unfolding labels_read are_labels is_label_count
labels_back path d labels h there =
    let p = and_parts _ _ h in
    let few = ap (λ n. nat_le n 16) (count_back label_data labels) ∙ p.0 in
    rw (some_list_back path labels_key d 16 (items label_data labels) there few, list_or (items label_data labels))
    (items_back label_read label_data is_new_label label_back (key_at path labels_key) [] 0 labels p.1)

-- ---- what is found of a service

abbrev fields_of : ServiceKind → List ℕ → Option Data → List ℕ → Items → Bool → List Field
fields_of kind name target media labels history =
    record { key = kind_key; value = text (kind_word kind) }
    ∷ record { key = name_key; value = text name }
    ∷ record { key = target_key kind; value = target }
    ∷ record { key = media_key; value = some_text media }
    ∷ record { key = labels_key; value = list labels }
    ∷ record { key = history_key; value = history_data history }
    ∷ []

record IsFound (kind : ServiceKind) (name : List ℕ) (o : Option Data) (media : List ℕ) (labels : Items) (history : Bool) (d : Data) : Type 0 where
  kind_there : get kind_key d ≡ text (kind_word kind)
  name_there : get name_key d ≡ text name
  target_there : get (target_key kind) d ≡ o
  media_there : get media_key d ≡ some_text media
  labels_there : get labels_key d ≡ list labels
  history_there : get history_key d ≡ history_data history

found : (kind : ServiceKind) (name : List ℕ) (o : Option Data) (media : List ℕ) (labels : Items) (history : Bool) → IsFound kind name o media labels history (with_fields (fields_of kind name o media labels history))
found Can name o media labels history =
    let fields = fields_of Can name o media labels history in
    record {
      kind_there = get_of kind_key fields;
      name_there = get_of name_key fields;
      target_there = get_of (target_key Can) fields ∙ or_none o;
      media_there = get_of media_key fields ∙ or_none _;
      labels_there = get_of labels_key fields ∙ or_none _;
      history_there = get_of history_key fields ∙ or_none _;
    }
found Ethernet name o media labels history =
    let fields = fields_of Ethernet name o media labels history in
    record {
      kind_there = get_of kind_key fields;
      name_there = get_of name_key fields;
      target_there = get_of (target_key Ethernet) fields ∙ or_none o;
      media_there = get_of media_key fields ∙ or_none _;
      labels_there = get_of labels_key fields ∙ or_none _;
      history_there = get_of history_key fields ∙ or_none _;
    }
found Lin name o media labels history =
    let fields = fields_of Lin name o media labels history in
    record {
      kind_there = get_of kind_key fields;
      name_there = get_of name_key fields;
      target_there = get_of (target_key Lin) fields ∙ or_none o;
      media_there = get_of media_key fields ∙ or_none _;
      labels_there = get_of labels_key fields ∙ or_none _;
      history_there = get_of history_key fields ∙ or_none _;
    }
found Publisher name o media labels history =
    let fields = fields_of Publisher name o media labels history in
    record {
      kind_there = get_of kind_key fields;
      name_there = get_of name_key fields;
      target_there = get_of (target_key Publisher) fields ∙ or_none o;
      media_there = get_of media_key fields ∙ or_none _;
      labels_there = get_of labels_key fields ∙ or_none _;
      history_there = get_of history_key fields ∙ or_none _;
    }
found Subscriber name o media labels history =
    let fields = fields_of Subscriber name o media labels history in
    record {
      kind_there = get_of kind_key fields;
      name_there = get_of name_key fields;
      target_there = get_of (target_key Subscriber) fields ∙ or_none o;
      media_there = get_of media_key fields ∙ or_none _;
      labels_there = get_of labels_key fields ∙ or_none _;
      history_there = get_of history_key fields ∙ or_none _;
    }
found Server name o media labels history =
    let fields = fields_of Server name o media labels history in
    record {
      kind_there = get_of kind_key fields;
      name_there = get_of name_key fields;
      target_there = get_of (target_key Server) fields ∙ or_none o;
      media_there = get_of media_key fields ∙ or_none _;
      labels_there = get_of labels_key fields ∙ or_none _;
      history_there = get_of history_key fields ∙ or_none _;
    }
found Client name o media labels history =
    let fields = fields_of Client name o media labels history in
    record {
      kind_there = get_of kind_key fields;
      name_there = get_of name_key fields;
      target_there = get_of (target_key Client) fields ∙ or_none o;
      media_there = get_of media_key fields ∙ or_none _;
      labels_there = get_of labels_key fields ∙ or_none _;
      history_there = get_of history_key fields ∙ or_none _;
    }

-- ---- its keys are known

kind_back : (kind : ServiceKind) → service_kind_of (kind_word kind) ≡ Some kind
unfolding service_kind_of
kind_back Can = refl
kind_back Ethernet = refl
kind_back Lin = refl
kind_back Publisher = refl
kind_back Subscriber = refl
kind_back Server = refl
kind_back Client = refl

target_known : (kind : ServiceKind) → is_of_kind kind (target_key kind) ≡ true
unfolding is_of_kind
target_known Can = refl
target_known Ethernet = refl
target_known Lin = refl
target_known Publisher = refl
target_known Subscriber = refl
target_known Server = refl
target_known Client = refl

media_known : (kind : ServiceKind) (media : List ℕ) → (is_bus kind ≡ true → media ≡ []) → (is_of_kind kind media_key || is_none (some_text media)) ≡ true
unfolding is_of_kind
media_known Can media h = rw (h refl) refl
media_known Ethernet media h = rw (h refl) refl
media_known Lin media h = rw (h refl) refl
media_known Publisher media h = refl
media_known Subscriber media h = refl
media_known Server media h = refl
media_known Client media h = refl

labels_known : (kind : ServiceKind) (labels : Items) → (is_bus kind ≡ true → list labels ≡ None) → (is_of_kind kind labels_key || is_none (list labels)) ≡ true
unfolding is_of_kind
labels_known Can labels h = rw (h refl) refl
labels_known Ethernet labels h = rw (h refl) refl
labels_known Lin labels h = rw (h refl) refl
labels_known Publisher labels h = refl
labels_known Subscriber labels h = refl
labels_known Server labels h = refl
labels_known Client labels h = refl

no_history : (history : Bool) → not history ≡ true → is_none (history_data history) ≡ true
no_history true h = absurd (false≢true h)
no_history false h = refl

history_known : (kind : ServiceKind) (history : Bool) → (has_history kind || not history) ≡ true → (is_of_kind kind history_key || is_none (history_data history)) ≡ true
unfolding is_of_kind
history_known Can history h = no_history history h
history_known Ethernet history h = no_history history h
history_known Lin history h = no_history history h
history_known Publisher history h = refl
history_known Subscriber history h = no_history history h
history_known Server history h = no_history history h
history_known Client history h = no_history history h

or_true : (a b : Bool) → a ≡ true → (a || b) ≡ true
or_true true b h = refl
or_true false b h = absurd (false≢true h)

all_known : (kind : ServiceKind) (name : List ℕ) (o : Option Data) (media : List ℕ) (labels : Items) (history : Bool) → (is_bus kind ≡ true → media ≡ []) → (is_bus kind ≡ true → list labels ≡ None) → (has_history kind || not history) ≡ true
    → are_known (knows (objects.Service kind)) (fields_of kind name o media labels history) ≡ true
unfolding knows is_of_kind
all_known kind name o media labels history plain bare kept =
    and_from _ _ refl
    (and_from _ _ refl
    (and_from _ _ (or_true _ (is_none o) (target_known kind))
    (and_from _ _ (media_known kind media plain) (and_from _ _ (labels_known kind labels bare) (and_from _ _ (history_known kind history kept) refl)))))

-- ---- what it speaks of

history_back : (kind : ServiceKind) (path : List ℕ) (d : Data) (history : Bool) → (has_history kind || not history) ≡ true → get history_key d ≡ history_data history → history_read kind path d ≡ Ok history
unfolding history_given
history_back kind path d history kept there = by_test (has_history kind) refl history kept there
  where
    by_test : (b : Bool) → has_history kind ≡ b → (history : Bool) → (has_history kind || not history) ≡ true → get history_key d ≡ history_data history → history_read kind path d ≡ Ok history
    by_test true t true kept there = rw (t, number_back path history_key d 0 1 1 there refl refl) refl
    by_test true t false kept there = rw (t, no_number_back path history_key d 0 1 there) refl
    by_test false t true kept there = absurd (false≢true (rw t at kept))
    by_test false t false kept there = rw t refl

media_back : (path : List ℕ) (d : Data) (media : List ℕ) → is_text media ≡ true → get media_key d ≡ some_text media → media_read path d ≡ Ok media
unfolding media_read
media_back path d [] fine there = rw (no_text_back path media_key d is_text there) refl
media_back path d (byte ∷ bytes) fine there = rw (text_back path media_key d is_text (byte ∷ bytes) there fine) refl

-- the network of a controller, which is left out where it has the controller's name
network_back : (path : List ℕ) (d : Data) (name topic : List ℕ) → is_name topic ≡ true → get network_key d ≡ (if bytes_eq topic name then None else text topic) → network_read name path d ≡ Ok topic
unfolding network_read
network_back path d name topic fine there = by_test (bytes_eq topic name) refl
  where
    by_test : (b : Bool) → bytes_eq topic name ≡ b → (text_read is_name path network_key d >>= λ given. Ok (unwrap_or given name)) ≡ Ok topic
    by_test true t = let same : topic ≡ name = (bytes_eq-Decides topic name).0 t in rw (no_text_back path network_key d is_name (there ∙ rw t refl)) (ap Ok (sym same))
    by_test false t = rw (text_back path network_key d is_name topic (there ∙ rw t refl) fine) refl

-- the empty list of no items
none_length : (xs : List ℕ) → (length xs == 0) ≡ true → xs ≡ []
none_length [] h = refl
none_length (x ∷ xs) h = let many = eqb-true _ _ h in absurd (omega (arith, many))

no_labels : (labels : List Label) → (length labels == 0) ≡ true → labels ≡ []
no_labels [] h = refl
no_labels (x ∷ xs) h = let many = eqb-true _ _ h in absurd (omega (arith, many))

bus_target : (kind : ServiceKind) → is_bus kind ≡ true → target_key kind ≡ network_key
bus_target Can h = refl
bus_target Ethernet h = refl
bus_target Lin h = refl
bus_target Publisher h = absurd (false≢true h)
bus_target Subscriber h = absurd (false≢true h)
bus_target Server h = absurd (false≢true h)
bus_target Client h = absurd (false≢true h)

-- what is known of the specification of one that is no controller
record IsFull (spec : SpecValue) : Type 0 where
  topic : is_name spec.topic ≡ true
  media : is_text spec.media ≡ true
  labels : are_labels spec.labels ≡ true

-- and of one that is a controller
record IsBare (spec : SpecValue) : Type 0 where
  topic : is_name spec.topic ≡ true
  media : spec.media ≡ []
  labels : spec.labels ≡ []

spec_full : (kind : ServiceKind) (spec : SpecValue) → is_bus kind ≡ false → is_spec kind spec ≡ true → IsFull spec
unfolding is_spec
spec_full kind spec t h =
    let p = and_parts _ _ (rw t at h) in
    let q = and_parts _ _ p.1 in
    record { topic = p.0; media = q.0; labels = q.1 }

spec_bare : (kind : ServiceKind) (spec : SpecValue) → is_bus kind ≡ true → is_spec kind spec ≡ true → IsBare spec
unfolding is_spec
spec_bare kind spec t h =
    let p = and_parts _ _ (rw t at h) in
    let q = and_parts _ _ p.1 in
    record { topic = p.0; media = none_length spec.media q.0; labels = no_labels spec.labels q.1 }

module _ (path : List ℕ) (kind : ServiceKind) (name : List ℕ) (spec : SpecValue) (d : Data) (target_there : get (target_key kind) d ≡ (if is_bus kind && bytes_eq spec.topic name then None else text spec.topic))
    (media_there : get media_key d ≡ some_text spec.media) (labels_there : get labels_key d ≡ list (items label_data spec.labels)) (fine : is_spec kind spec ≡ true) where
  spec_back : spec_read kind name path d ≡ Ok spec
  unfolding bus_spec_read full_spec_read
  spec_back = by_test (is_bus kind) refl
    where
      by_test : (b : Bool) → is_bus kind ≡ b → spec_read kind name path d ≡ Ok spec
      by_test true t =
          let bare = spec_bare kind spec t fine in
          let there : get network_key d ≡ (if bytes_eq spec.topic name then None else text spec.topic) = ap (λ k. get k d) (sym (bus_target kind t)) ∙ target_there ∙ rw t refl in
          let same : record { topic = spec.topic; media = []; labels = [] } ≡ spec = λ j. record { topic = spec.topic; media = sym bare.media j; labels = sym bare.labels j } in
          rw (t, network_back path d name spec.topic bare.topic there) (ap Ok same)
      by_test false t =
          let full = spec_full kind spec t fine in
          let there : get (target_key kind) d ≡ text spec.topic = target_there ∙ rw t refl in
          rw (t, needed_text_back path (target_key kind) d is_name spec.topic there full.topic, media_back path d spec.media full.media media_there, labels_back path d spec.labels full.labels labels_there) refl

-- ---- a service

-- what is known of a service behind these
record IsNext (earlier : List Service) (service : Service) : Type 0 where
  id : service.id ≡ length earlier
  new : not (list_any (λ other. bytes_eq other.name service.name) earlier) ≡ true
  name : is_name service.name ≡ true
  spec : is_spec service.kind service.spec ≡ true
  history : (has_history service.kind || not service.history) ≡ true

next_is : (earlier : List Service) (service : Service) → is_next_service earlier service ≡ true → IsNext earlier service
unfolding is_next_service is_next_own
next_is earlier service h =
    let p = and_parts _ _ h in
    let q = and_parts _ _ p.0 in
    let r = and_parts _ _ p.1 in
    let t = and_parts _ _ r.1 in
    record { id = eqb-true _ _ q.0; new = q.1; name = r.0; spec = t.0; history = t.1 }

service_back : (path : List ℕ) (earlier : List Service) (service : Service) → is_next_service earlier service ≡ true → service_read path earlier (service_data service) ≡ Ok service
unfolding service_read service_data kind_in new_name_read
service_back path earlier service h =
    let next = next_is earlier service h in
    let labels = items label_data service.spec.labels in
    let fields = fields_of service.kind service.name (target_data service) service.spec.media labels service.history in
    let d = with_fields fields in
    let f = found service.kind service.name (target_data service) service.spec.media labels service.history in
    let plain : is_bus service.kind ≡ true → service.spec.media ≡ [] = λ t. (spec_bare service.kind service.spec t next.spec).media in
    let bare : is_bus service.kind ≡ true → list labels ≡ None = λ t. ap (λ (ls : List Label). list (items label_data ls)) (spec_bare service.kind service.spec t next.spec).labels in
    let same : record { id = length earlier; kind = service.kind; name = service.name; spec = service.spec; history = service.history } ≡ service =
    λ j. record { id = sym next.id j; kind = service.kind; name = service.name; spec = service.spec; history = service.history } in
    rw (
      f.kind_there,
      kind_back service.kind,
      enters (knows (objects.Service service.kind)) path fields (all_known service.kind service.name (target_data service) service.spec.media labels service.history plain bare next.history),
      needed_word_back path kind_key d service_kind_of (kind_word service.kind) service.kind f.kind_there (kind_back service.kind),
      needed_text_back path name_key d is_name service.name f.name_there next.name,
      next.new,
      spec_back path service.kind service.name service.spec d f.target_there f.media_there f.labels_there next.spec,
      history_back service.kind path d service.history next.history f.history_there,
    ) (ap Ok same)

pub services_back : (path : List ℕ) (services : List Service) → are_services services ≡ true → services_in path (items service_data services) ≡ Ok services
unfolding services_in are_services
services_back path services h = items_back service_read service_data is_next_service service_back path [] 0 services (and_parts _ _ h).1
