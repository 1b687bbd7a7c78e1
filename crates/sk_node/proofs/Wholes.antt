-- One block behind another, and what the app was told of them.
use Rattle.std.specs.Prelude.{◌≡◌, refl, ℕ, List, [], ◌∷◌, ◌++◌}
use Rattle.std.proofs.Common.{ap, sym, ◌∙◌, subst, append-nil}
use Rattle.sk_msg.specs.declared.content.Content.{Content}
use Rattle.sk_msg.specs.declared.entry.Entry.{Entry}
use Rattle.sk_msg.specs.declared.entry.Entry.TheVariants.{State as Entered}
use Rattle.sk_msg.specs.declared.state.State.{State}
use Rattle.sk_law.specs.declared.setup.Setup.{Setup}
use Rattle.sk_law.specs.Past.{Past, add, put_each}
use Rattle.sk_law.specs.Readings.{state_of}
use Rattle.sk_law.specs.Told.{heard_by, notices_by}
use Rattle.sk_law.specs.Growing.{Adds, GoesByEntries}
use Rattle.sk_law.specs.Kept.{Kept, IsCut, grown}
use Rattle.sk_node.specs.Lists.{Lists, IsQuiet, Tells, TellsCut, Whole, Part}
use Rattle.sk_node.specs.Notified.{with_notices, NotifiedPart}
use Rattle.sk_node.proofs.Cuts.{prefix_both, adds_one, adds_same, cut_none, cut_at, both_stand}
use Rattle.sk_node.proofs.Telling.{quiet_same, quiet_one, quiet_puts, tells_quiet, tells_both, tells_one, tells_part, cut_of_tells, tells_then}

-- ## Nothing that tells the app

-- nothing was done
pub quiet_kept : {old new : Kept} → new ≡ old → IsQuiet old.past.journal new.past.journal
quiet_kept e = quiet_same (ap (λ (x : Kept). x.past.journal) e)

-- an entry of which the app is told nothing
pub quiet_add : {old new : Kept} → GoesByEntries → (e : Entry) → new ≡ grown (add e old.past) old → heard_by old.past.journal e ≡ [] → notices_by (state_of old.past.journal) e ≡ [] →
    IsQuiet old.past.journal new.past.journal
quiet_add {old} {new} law e h i j = subst (λ (x : Kept). IsQuiet old.past.journal x.past.journal) (sym h) (quiet_one law old.past.journal e i j)

-- Puts
pub quiet_all : {old new : Kept} → GoesByEntries → (numbers : List ℕ) (m : Content) → new ≡ grown (put_each numbers m old.past) old → IsQuiet old.past.journal new.past.journal
quiet_all {old} {new} law numbers m h = subst (λ (x : Kept). IsQuiet old.past.journal x.past.journal) (sym h) (quiet_puts law old.past.journal numbers m)

-- ## All of it

-- the same past by another word
pub whole_is : {old new : Kept} {a b : Past} {was now : Lists} → a ≡ b → Whole old new a was now → Whole old new b was now
whole_is {old} {new} {a} {b} {was} {now} e h = subst (λ x. Whole old new x was now) e h

-- nothing of it tells the app
pub whole_quiet : {old new : Kept} {a : Past} {was : Lists} → new ≡ grown a old → IsQuiet old.past.journal new.past.journal → Whole old new a was was
whole_quiet {old} {new} {a} {was} e q = record { past = e; made = refl; told = tells_quiet was q }

-- no entry came
pub whole_none : {old new : Kept} {a : Past} {was : Lists} → new ≡ grown a old → a.journal ≡ old.past.journal → Whole old new a was was
whole_none e f = whole_quiet e (quiet_same (ap (λ (x : Kept). x.past.journal) e ∙ f))

-- nothing was done
pub whole_same : (k : Kept) (was : Lists) → Whole k k k.past was was
whole_same k was = whole_none refl refl

-- an entry of which the app is told nothing
pub whole_add : {old new : Kept} {was : Lists} → GoesByEntries → (e : Entry) → new ≡ grown (add e old.past) old → heard_by old.past.journal e ≡ [] → notices_by (state_of old.past.journal) e ≡ [] →
    Whole old new (add e old.past) was was
whole_add law e h i j = whole_quiet h (quiet_add law e h i j)

-- both parts
pub whole_then : {old middle new : Kept} {a : Past} {was between now : Lists} (g : Setup → Past → Past) →
    Whole old middle a was between → Whole middle new (g middle.setup middle.past) between now → Whole old new (g old.setup a) was now
whole_then {old} g h i = record { past = both_stand old g h.past i.past; made = i.made ∙ h.made; told = tells_both h.told i.told }

-- ## Cut

-- the same past by another word
pub part_is : {old new : Kept} {a b : Past} {was now : Lists} → a ≡ b → Part old new a was now → Part old new b was now
part_is {old} {new} {a} {b} {was} {now} e h = subst (λ x. Part old new x was now) e h

-- nothing of it tells the app
pub part_quiet : {old new : Kept} {a : Past} {was : Lists} → IsCut old new a → IsQuiet old.past.journal new.past.journal → Part old new a was was
part_quiet {old} {new} {a} {was} c q = record { setup = c.setup; out = c.out; grows = c.grows; front = c.front; made = refl; told = cut_of_tells (tells_quiet was q) }

-- nothing was done
pub part_none : {old new : Kept} {a : Past} {was : Lists} → new ≡ old → Adds old.past a → Part old new a was was
part_none e h = part_quiet (cut_none e h) (quiet_same (ap (λ (x : Kept). x.past.journal) e))

-- the first part stands, and nothing of what follows
pub part_at : {old new : Kept} {a b : Past} {was now : Lists} → Whole old new a was now → Adds old.past a → Adds a b → Part old new b was now
part_at {old} {new} {a} {b} h f g =
    let c : IsCut old new b = cut_at h.past f g in
    record { setup = c.setup; out = c.out; grows = c.grows; front = c.front; made = h.made; told = cut_of_tells h.told }

-- the cut is within the first part, and what follows only adds
pub part_first : {old new : Kept} {a b : Past} {was now : Lists} → Part old new a was now → Adds a b → Part old new b was now
part_first {old} {new} {a} {b} c f = record { setup = c.setup; out = c.out; grows = c.grows; front = prefix_both new.past.journal a.journal b.journal c.front f.front; made = c.made; told = c.told }

-- the first part stands, and the cut is within the second
pub part_then : {old middle new : Kept} {a : Past} {was between now : Lists} (g : Setup → Past → Past) →
    Whole old middle a was between → Adds old.past a → Part middle new (g middle.setup middle.past) between now → Part old new (g old.setup a) was now
part_then {old} {middle} {new} {a} {was} {between} {now} g h f c =
    let told : TellsCut old.past.journal new.past.journal was now = tells_then h.told c.told in
    let d : Part (grown a old) new (g old.setup a) between now = subst (λ (x : Kept). Part x new (g x.setup x.past) between now) h.past c in
    record { setup = d.setup; out = d.out; grows = prefix_both old.past.journal a.journal new.past.journal f.front d.grows; front = d.front; made = d.made ∙ h.made; told = told }

-- ## A state, and that the app is notified of it

pub whole_state : {old new : Kept} {was now : Lists} → GoesByEntries → (to last : State) → new ≡ grown (add (Entered to) old.past) old → last ≡ state_of old.past.journal →
    now ≡ with_notices (notices_by last (Entered to)) was → Whole old new (add (Entered to) old.past) was now
whole_state {old} {new} {was} {now} law to last e s n =
    let es : List Entry = old.past.journal in
    let notified : now.notified ≡ was.notified ++ notices_by (state_of es) (Entered to) = ap (λ (l : Lists). l.notified) n ∙ ap (λ x. was.notified ++ notices_by x (Entered to)) s in
    let told : Tells es (es ++ Entered to ∷ []) was now = tells_one law es (Entered to) was now (ap (λ (l : Lists). l.heard) n ∙ sym (append-nil was.heard)) notified in
    record { past = e; made = ap (λ (l : Lists). l.made) n; told = subst (λ (x : Kept). Tells es x.past.journal was now) (sym e) told }

pub part_state : {old new : Kept} {was now : Lists} → GoesByEntries → (to last : State) → new ≡ grown (add (Entered to) old.past) old → last ≡ state_of old.past.journal →
    NotifiedPart (notices_by last (Entered to)) was now → Part old new (add (Entered to) old.past) was now
part_state {old} {new} {was} {now} law to last e s n =
    let es : List Entry = old.past.journal in
    let c : IsCut old new (add (Entered to) old.past) = cut_at e (adds_one (Entered to) old.past) (adds_same refl) in
    let told : TellsCut es (es ++ Entered to ∷ []) was now =
    tells_part law es (Entered to) was now [] [] n.notes n.rest refl (ap (λ (l : Lists). l.heard) n.lists ∙ sym (append-nil was.heard))
    (n.both ∙ ap (λ x. notices_by x (Entered to)) s) (ap (λ (l : Lists). l.notified) n.lists) in
    record {
      setup = c.setup;
      out = c.out;
      grows = c.grows;
      front = c.front;
      made = ap (λ (l : Lists). l.made) n.lists;
      told = subst (λ (x : Kept). TellsCut es x.past.journal was now) (sym e) told;
    }
