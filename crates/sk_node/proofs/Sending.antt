-- An action that was judged: its Did, the Puts of what it sends, and that the app is told.
use Rattle.std.specs.Prelude.{◌≡◌, ◌⊎◌, refl, ℕ, List, [], ◌∷◌, ◌++◌, Option}
use Rattle.std.proofs.Common.{ap, sym, ◌∙◌, subst, append-nil, ⊎_elim}
use Rattle.sk_msg.specs.declared.content.Content.{Content}
use Rattle.sk_msg.specs.declared.entry.Entry.{Entry}
use Rattle.sk_msg.specs.declared.entry.Entry.TheVariants.{Did}
use Rattle.sk_law.specs.declared.made.Heard.TheVariants as hearings
use Rattle.sk_law.specs.declared.memory.ServiceState.{ServiceState}
use Rattle.sk_law.specs.Blocks.{did, put_some}
use Rattle.sk_law.specs.Growing.{BlocksAdd, GoesByEntries}
use Rattle.sk_law.specs.Outcomes.{Outcome}
use Rattle.sk_law.specs.Past.{Past, add}
use Rattle.sk_law.specs.Receivers.{changed, with_services}
use Rattle.sk_law.specs.Kept.{Kept, IsCut, grown}
use Rattle.sk_node.specs.Lists.{Lists, IsQuiet, Tells, TellsCut, Whole, Part}
use Rattle.sk_node.proofs.Cuts.{adds_same, both_stand, cut_at, cut_then}
use Rattle.sk_node.proofs.Telling.{tells_both, tells_one, tells_part, tells_quiet}
use Rattle.sk_node.proofs.Wholes.{part_at}

-- the app has heard this answer
abbrev pub answered_with : Lists → ℕ → ℕ → Lists
answered_with was s code = record was { heard = was.heard ++ hearings.Answer s code ∷ [] }

-- the entry alone, with what the service is at then
abbrev pub noted : ℕ → Outcome → Past → Past
noted s o past = add (Did s o.code o.message) (with_services (changed (λ at. o.state) s past.memory.services) past)

-- what comes behind tells the app nothing
cut_quiet : {a b c : List Entry} {was now : Lists} → TellsCut a b was now → IsQuiet b c → TellsCut a c was now
cut_quiet {a} {b} {c} t q = record {
  more = t.more;
  last = t.last;
  heard_in = q.heard_is ∙ t.heard_in;
  heard_is = t.heard_is;
  one = t.one;
  notes = t.notes;
  rest = t.rest;
  notices_in = q.notices_is ∙ t.notices_in;
  notified_is = t.notified_is;
  two = t.two;
}

-- the app wasn't told the answer yet
untold : GoesByEntries → (old middle : Kept) (s : ℕ) (o : Outcome) (was : Lists) → middle ≡ grown (noted s o old.past) old → TellsCut old.past.journal middle.past.journal was was
untold goes old middle s o was e =
    let es : List Entry = old.past.journal in
    subst (λ (x : Kept). TellsCut es x.past.journal was was) (sym e)
    (tells_part goes es (Did s o.code o.message) was was [] (hearings.Answer s o.code ∷ []) [] [] refl (sym (append-nil was.heard)) refl (sym (append-nil was.notified)))

-- the app was told it
told : GoesByEntries → (old middle : Kept) (s : ℕ) (o : Outcome) (was now : Lists) → middle ≡ grown (noted s o old.past) old → now ≡ answered_with was s o.code →
    Tells old.past.journal middle.past.journal was now
told goes old middle s o was now e h =
    let es : List Entry = old.past.journal in
    subst (λ (x : Kept). Tells es x.past.journal was now) (sym e)
    (tells_one goes es (Did s o.code o.message) was now (ap (λ (x : Lists). x.heard) h) (ap (λ (x : Lists). x.notified) h ∙ sym (append-nil was.notified)))

-- the Puts stand too
stands : (old : Kept) {middle new : Kept} (s : ℕ) (o : Outcome) → middle ≡ grown (noted s o old.past) old → new ≡ grown (put_some o.to o.message middle.past) middle →
    new ≡ grown (did s o old.past) old
stands old s o e f = both_stand old (λ S past. put_some o.to o.message past) e f

-- memory was refused within the Puts
pub part_putting : GoesByEntries → (old middle new : Kept) (s : ℕ) (o : Outcome) (was : Lists) → middle ≡ grown (noted s o old.past) old →
    IsCut middle new (put_some o.to o.message middle.past) → IsQuiet middle.past.journal new.past.journal → Part old new (did s o old.past) was was
part_putting goes old middle new s o was e c q =
    let d : IsCut old new (did s o old.past) = cut_then (λ S past. put_some o.to o.message past) e (record { front = (Did s o.code o.message ∷ [], refl) }) c in
    record { setup = d.setup; out = d.out; grows = d.grows; front = d.front; made = refl; told = cut_quiet (untold goes old middle s o was e) q }

-- all of it
pub whole_did : GoesByEntries → (old middle new : Kept) (s : ℕ) (o : Outcome) (was now : Lists) → middle ≡ grown (noted s o old.past) old →
    new ≡ grown (put_some o.to o.message middle.past) middle → IsQuiet middle.past.journal new.past.journal → now ≡ answered_with was s o.code → Whole old new (did s o old.past) was now
whole_did goes old middle new s o was now e f q h = record {
  past = stands old s o e f;
  made = ap (λ (x : Lists). x.made) h;
  told = tells_both (told goes old middle s o was now e h) (tells_quiet now q);
}

-- memory was refused as the app was told: it was told, or it wasn't
pub part_telling : GoesByEntries → BlocksAdd → (old middle new : Kept) (s : ℕ) (o : Outcome) (was now : Lists) → middle ≡ grown (noted s o old.past) old →
    new ≡ grown (put_some o.to o.message middle.past) middle → IsQuiet middle.past.journal new.past.journal → (now ≡ answered_with was s o.code) ⊎ (now ≡ was) →
    Part old new (did s o old.past) was now
part_telling goes adds old middle new s o was now e f q h = ⊎_elim
    (λ (i : now ≡ answered_with was s o.code). let r : Part old new (did s o old.past) was now =
    part_at (whole_did goes old middle new s o was now e f q i) (adds.does s o old.past) (adds_same refl) in r)
    (λ (i : now ≡ was). let r : Part old new (did s o old.past) was now =
    (let c : IsCut old new (did s o old.past) = cut_at (stands old s o e f) (adds.does s o old.past) (adds_same refl) in
    let p : Part old new (did s o old.past) was was =
    record { setup = c.setup; out = c.out; grows = c.grows; front = c.front; made = refl; told = cut_quiet (untold goes old middle s o was e) q } in
    subst (λ x. Part old new (did s o old.past) was x) (sym i) p) in r) h

-- the entry, by what its message is
pub added : (old middle : Kept) (s code : ℕ) (sent message : Option Content) (at : ServiceState) →
    middle ≡ grown (add (Did s code sent) (with_services (changed (λ x. at) s old.past.memory.services) old.past)) old → sent ≡ message →
    middle ≡ grown (add (Did s code message) (with_services (changed (λ x. at) s old.past.memory.services) old.past)) old
added old middle s code sent message at e h =
    e ∙ ap (λ m. grown (add (Did s code m) (with_services (changed (λ x. at) s old.past.memory.services) old.past)) old) h
