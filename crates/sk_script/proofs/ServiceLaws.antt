-- Services that were read are those that a participant may have.
use Rattle.std.proofs.Common.{◌≡◌, ℕ, ◌≤◌, Bool, true, false, List, [], ◌∷◌, length, ◌++◌, Option, Some, None, Ok, refl, subst, arith}
use Rattle.std.specs.Prelude.{◌&&◌, ◌||◌, ◌==◌, not, unwrap_or, if◌then◌else◌}
use Rattle.std.specs.List.{list_any}
use Rattle.std.specs.Str.{bytes_eq}
use Rattle.std.proofs.lemmas.Bool.{and_from, and_parts, le-leb, eq-eqb}
use Rattle.std.proofs.lemmas.Str.{is_utf8-from_IsUtf8, IsUtf8-from_ascii}
use Rattle.serde_json.specs.Data.{Data, Items, no_items}
use Rattle.serde_json.specs.Events.{items_len}
use Rattle.sk_base.specs.Ranges.{is_name, is_text}
use Rattle.sk_msg.specs.Each.{each_after}
use Rattle.sk_msg.specs.Rules.{is_new_label}
use Rattle.sk_msg.specs.Specs.{SpecValue, is_new_key, is_label_count, is_newly_keyed, are_labels as are_spec_labels}
use Rattle.sk_msg.specs.declared.label.Label.{Label}
use Rattle.sk_msg.specs.declared.service.Service.{Service}
use Rattle.sk_msg.specs.declared.service.ServiceKind.{ServiceKind}
use Rattle.sk_config.specs.Paths.{key_at}
use Rattle.sk_rules.specs.Fields.{object_read, needed_text, text_read, needed_word, list_read, items_read}
use Rattle.sk_rules.specs.Outcome.{must}
use Rattle.sk_rules.specs.Places.{is_next_own}
use Rattle.sk_rules.specs.Words.{service_kind_of, label_kind_of}
use Rattle.sk_rules.specs.declared.fault.Rule.TheVariants as rules
use Rattle.sk_script.specs.Keys.{knows, is_bus, has_history, target_key, name_key, kind_key, network_key, media_key, labels_key, key_key, value_key}
use Rattle.sk_script.specs.Services.{are_labels, is_spec, is_next_service, are_services, label_read, labels_read, kind_in, object_of, new_name_read, network_read, media_read, bus_spec_read, full_spec_read, spec_read, history_read, service_read, services_in}
use Rattle.sk_script.specs.declared.keys.Object.TheVariants as objects
use Rattle.sk_script.proofs.OutcomeLaws.{then_ok, after_ok, must_ok, ok_is}
use Rattle.sk_script.proofs.FieldLaws.{text_fine, needed_fine, list_within}
use Rattle.sk_script.proofs.ItemLaws.{items_pass, items_number}

-- ---- labels

label_is : (path : List ℕ) (earlier : List Label) (d : Data) (label : Label) → label_read path earlier d ≡ Ok label → is_new_label earlier label ≡ true
unfolding label_read
label_is path earlier d label e =
    after_ok (object_read (knows objects.Label) path d) _ label e (λ x entered rest.
    then_ok (needed_text is_name path key_key d) _ label rest (λ key named rest.
    after_ok (must (key_at path key_key) rules.NameTaken (is_new_key earlier key)) _ label rest (λ y new rest.
    then_ok (needed_text is_text path value_key d) _ label rest (λ value said rest.
    then_ok (needed_word label_kind_of path kind_key d) _ label rest (λ kind is made.
    subst (λ (l : Label). is_new_label earlier l ≡ true) (ok_is _ _ made)
    (and_from _ _ (and_from _ _ (needed_fine _ _ _ _ key named) (must_ok _ _ _ _ new)) (and_from _ _ (needed_fine _ _ _ _ value said) refl)))))))

-- behind each other, and at most 16
labels_are : (path : List ℕ) (d : Data) (labels : List Label) → labels_read path d ≡ Ok labels → (length labels ≤ 16) × (each_after is_new_label [] labels ≡ true)
unfolding labels_read
labels_are path d labels e =
    then_ok (list_read 0 16 path labels_key d) _ labels e
    (λ given listed read. (few given listed read, items_pass label_read is_new_label label_is (key_at path labels_key) [] 0 (unwrap_or given no_items) labels read refl))
  where
    few : (given : Option Items) → list_read 0 16 path labels_key d ≡ Ok given → items_read label_read (key_at path labels_key) [] 0 (unwrap_or given no_items) ≡ Ok labels → length labels ≤ 16
    few None listed read = let count = items_number label_read (key_at path labels_key) [] 0 no_items labels read in omega (arith, count)
    few (Some ds) listed read = let count = items_number label_read (key_at path labels_key) [] 0 ds labels read in let range = list_within 0 16 path labels_key d ds listed in omega (arith, count, range.1)

newly : (before labels : List Label) → each_after is_new_label before labels ≡ true → each_after is_newly_keyed before labels ≡ true
newly before [] h = refl
newly before (label ∷ labels) h =
    let both = and_parts _ _ h in
    and_from _ _ (and_parts _ _ (and_parts _ _ both.0).0).1 (newly (before ++ label ∷ []) labels both.1)

-- what the type of a specification asks of its labels
pub labels_fit : (path : List ℕ) (d : Data) (labels : List Label) → labels_read path d ≡ Ok labels → are_spec_labels labels ≡ true
unfolding is_label_count
labels_fit path d labels e = let are = labels_are path d labels e in and_from _ _ (le-leb (length labels) 16 are.0) (newly [] labels are.1)

labels_fine : (path : List ℕ) (d : Data) (labels : List Label) → labels_read path d ≡ Ok labels → are_labels labels ≡ true
unfolding are_labels is_label_count
labels_fine path d labels e = let are = labels_are path d labels e in and_from _ _ (le-leb (length labels) 16 are.0) are.1

-- ---- what a service speaks of

name_or : (path key : List ℕ) (d : Data) (given : Option (List ℕ)) (name : List ℕ) → is_name name ≡ true → text_read is_name path key d ≡ Ok given → is_name (unwrap_or given name) ≡ true
name_or path key d None name named read = named
name_or path key d (Some text) name named read = text_fine is_name path key d text read

network_is : (name path : List ℕ) (d : Data) (network : List ℕ) → is_name name ≡ true → network_read name path d ≡ Ok network → is_name network ≡ true
unfolding network_read
network_is name path d network named e =
    then_ok (text_read is_name path network_key d) _ network e
    (λ given read same. subst (λ (n : List ℕ). is_name n ≡ true) (ok_is _ _ same) (name_or path network_key d given name named read))

pub no_text : is_text [] ≡ true
unfolding is_text
no_text = rw (is_utf8-from_IsUtf8 [] (IsUtf8-from_ascii [] (λ i. omega arith))) refl

text_or : (path key : List ℕ) (d : Data) (given : Option (List ℕ)) → text_read is_text path key d ≡ Ok given → is_text (unwrap_or given []) ≡ true
text_or path key d None read = no_text
text_or path key d (Some text) read = text_fine is_text path key d text read

media_is : (path : List ℕ) (d : Data) (media : List ℕ) → media_read path d ≡ Ok media → is_text media ≡ true
unfolding media_read
media_is path d media e =
    then_ok (text_read is_text path media_key d) _ media e
    (λ given read same. subst (λ (m : List ℕ). is_text m ≡ true) (ok_is _ _ same) (text_or path media_key d given read))

bus_spec_is : (kind : ServiceKind) (name path : List ℕ) (d : Data) (spec : SpecValue) → is_bus kind ≡ true → is_name name ≡ true → bus_spec_read name path d ≡ Ok spec → is_spec kind spec ≡ true
unfolding bus_spec_read is_spec
bus_spec_is kind name path d spec bus named e =
    then_ok (network_read name path d) _ spec e
    (λ network read made. subst (λ (s : SpecValue). (is_name s.topic && (if is_bus kind then length s.media == 0 && length s.labels == 0 else is_text s.media && are_labels s.labels)) ≡ true) (ok_is _ _ made)
    (rw bus (and_from _ _ (network_is name path d network named read) refl)))

full_spec_is : (kind : ServiceKind) (path : List ℕ) (d : Data) (spec : SpecValue) → is_bus kind ≡ false → full_spec_read kind path d ≡ Ok spec → is_spec kind spec ≡ true
unfolding full_spec_read is_spec
full_spec_is kind path d spec other e =
    then_ok (needed_text is_name path (target_key kind) d) _ spec e (λ topic named rest.
    then_ok (media_read path d) _ spec rest (λ media said rest.
    then_ok (labels_read path d) _ spec rest (λ labels read made.
    subst (λ (s : SpecValue). (is_name s.topic && (if is_bus kind then length s.media == 0 && length s.labels == 0 else is_text s.media && are_labels s.labels)) ≡ true) (ok_is _ _ made)
    (rw other (and_from _ _ (needed_fine _ _ _ _ topic named) (and_from _ _ (media_is path d media said) (labels_fine path d labels read)))))))

spec_is : (kind : ServiceKind) (name path : List ℕ) (d : Data) (spec : SpecValue) → is_name name ≡ true → spec_read kind name path d ≡ Ok spec → is_spec kind spec ≡ true
spec_is kind name path d spec named e = by_test (is_bus kind) refl
  where
    by_test : (b : Bool) → is_bus kind ≡ b → is_spec kind spec ≡ true
    by_test true t = bus_spec_is kind name path d spec t named (rw t at e)
    by_test false t = full_spec_is kind path d spec t (rw t at e)

history_is : (kind : ServiceKind) (path : List ℕ) (d : Data) (history : Bool) → history_read kind path d ≡ Ok history → (has_history kind || not history) ≡ true
history_is kind path d history e = by_test (has_history kind) refl
  where
    by_test : (b : Bool) → has_history kind ≡ b → (has_history kind || not history) ≡ true
    by_test true t = rw t refl
    by_test false t = rw t (let off : false ≡ history = ok_is _ _ (rw t at e) in rw (← off) refl)

-- ---- a service

new_name_is : (earlier : List Service) (path : List ℕ) (d : Data) (name : List ℕ) → new_name_read earlier path d ≡ Ok name → (is_name name ≡ true) × (not (list_any (λ other. bytes_eq other.name name) earlier) ≡ true)
unfolding new_name_read
new_name_is earlier path d name e =
    then_ok (needed_text is_name path name_key d) _ name e (λ text named rest.
    after_ok (must (key_at path name_key) rules.NameTaken (not (list_any (λ other. bytes_eq other.name text) earlier))) _ name rest (λ x new same.
    subst (λ (n : List ℕ). (is_name n ≡ true) × (not (list_any (λ other. bytes_eq other.name n) earlier) ≡ true)) (ok_is _ _ same)
    (needed_fine _ _ _ _ text named, must_ok _ _ _ _ new)))

service_is : (path : List ℕ) (earlier : List Service) (d : Data) (service : Service) → service_read path earlier d ≡ Ok service → is_next_service earlier service ≡ true
unfolding service_read is_next_service is_next_own
service_is path earlier d service e =
    after_ok (object_read (knows (object_of (kind_in d))) path d) _ service e (λ x entered rest.
    then_ok (needed_word service_kind_of path kind_key d) _ service rest (λ kind said rest.
    then_ok (new_name_read earlier path d) _ service rest (λ name named rest.
    then_ok (spec_read kind name path d) _ service rest (λ spec speaks rest.
    then_ok (history_read kind path d) _ service rest (λ history keeps made.
    let name_is = new_name_is earlier path d name named in
    subst (λ (s : Service). ((s.id == length earlier && not (list_any (λ other. bytes_eq other.name s.name) earlier)) && (is_name s.name && (is_spec s.kind s.spec && (has_history s.kind || not s.history)))) ≡ true) (ok_is _ _ made)
    (and_from _ _ (and_from _ _ (eq-eqb (length earlier) (length earlier) refl) name_is.1)
    (and_from _ _ name_is.0 (and_from _ _ (spec_is kind name path d spec name_is.0 speaks) (history_is kind path d history keeps)))))))))

-- services that were read of at most 64 items
pub services_are : (path : List ℕ) (ds : Items) (services : List Service) → items_len ds ≤ 64 → services_in path ds ≡ Ok services → are_services services ≡ true
unfolding services_in are_services
services_are path ds services few e =
    let count = items_number service_read path [] 0 ds services e in
    and_from _ _ (le-leb (length services) 64 (omega (arith, count, few))) (items_pass service_read is_next_service service_is path [] 0 ds services e refl)
