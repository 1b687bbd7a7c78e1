-- Cuts of one block within another.
use Rattle.std.specs.Prelude.{◌≡◌, refl, ℕ, List, [], ◌∷◌, ◌++◌, map, take, drop, Result, Ok, Err, OnErr}
use Rattle.std.proofs.Common.{ap, sym, ◌∙◌, subst, append_assoc, append-nil}
use Rattle.std.proofs.lemmas.List.{take-append-drop, map-append}
use mathlib.Core.List.{IsPrefix}
use Rattle.sk_msg.specs.declared.content.Content.{Content}
use Rattle.sk_msg.specs.declared.entry.Entry.{Entry}
use Rattle.sk_msg.specs.declared.entry.Entry.TheVariants.{Put}
use Rattle.sk_law.specs.declared.setup.Setup.{Setup}
use Rattle.sk_law.specs.Past.{Past, add, put_each}
use Rattle.sk_law.specs.Growing.{Adds}
use Rattle.sk_law.specs.Kept.{Kept, IsCut, grown}

-- a clause on a Result whose fact holds whatever the Result is
pub on_err : {T E P : Type 0} (r : Result T E) → P → OnErr r P
on_err (Ok x) h = tt
on_err (Err e) h = h

-- ## What only adds

pub prefix_same : {X : Type 0} (xs : List X) → IsPrefix xs xs
prefix_same xs = ([], append-nil xs)

pub prefix_both : {X : Type 0} (a b c : List X) → IsPrefix a b → IsPrefix b c → IsPrefix a c
prefix_both a b c h i = (h.0 ++ i.0, sym (append_assoc a h.0 i.0) ∙ ap (λ x. x ++ i.0) h.1 ∙ i.1)

-- only the memory changed, or nothing
pub adds_same : {past now : Past} → now.journal ≡ past.journal → Adds past now
adds_same {past} {now} e = record { front = ([], append-nil past.journal ∙ sym e) }

pub adds_both : {a b c : Past} → Adds a b → Adds b c → Adds a c
adds_both {a} {b} {c} f g = record { front = prefix_both a.journal b.journal c.journal f.front g.front }

pub adds_one : (e : Entry) (past : Past) → Adds past (add e past)
adds_one e past = record { front = (e ∷ [], refl) }

pub adds_puts : (numbers : List ℕ) (m : Content) (past : Past) → Adds past (put_each numbers m past)
adds_puts numbers m past = record { front = (map (λ q. Put q m) numbers, refl) }

-- ## Cuts

-- the same past by another word
pub cut_is : {old new : Kept} {a b : Past} → a ≡ b → IsCut old new a → IsCut old new b
cut_is {old} {new} e h = subst (λ x. IsCut old new x) e h

-- nothing was done
pub cut_none : {old new : Kept} {a : Past} → new ≡ old → Adds old.past a → IsCut old new a
cut_none {old} {new} {a} e h = subst (λ x. IsCut old x a) (sym e) (record { setup = refl; out = refl; grows = prefix_same old.past.journal; front = h.front })

-- the first part stands, and nothing of what follows
pub cut_at : {old new : Kept} {a b : Past} → new ≡ grown a old → Adds old.past a → Adds a b → IsCut old new b
cut_at {old} {new} {a} {b} e h i = subst (λ x. IsCut old x b) (sym e) (record { setup = refl; out = refl; grows = h.front; front = i.front })

-- the cut is within the first part, and what follows only adds
pub cut_first : {old new : Kept} {a b : Past} → IsCut old new a → Adds a b → IsCut old new b
cut_first {old} {new} {a} {b} i h = record { setup = i.setup; out = i.out; grows = i.grows; front = prefix_both new.past.journal a.journal b.journal i.front h.front }

-- the first part stands, and the cut is within the second
pub cut_then : {old middle new : Kept} {a : Past} (g : Setup → Past → Past) → middle ≡ grown a old → Adds old.past a → IsCut middle new (g middle.setup middle.past) → IsCut old new (g old.setup a)
cut_then {old} {middle} {new} {a} g e h i =
    let j : IsCut (grown a old) new (g old.setup a) = subst (λ (x : Kept). IsCut x new (g x.setup x.past)) e i in
    record { setup = j.setup; out = j.out; grows = prefix_both old.past.journal a.journal new.past.journal h.front j.grows; front = j.front }

-- both parts stand
pub both_stand : (old : Kept) {middle new : Kept} {a : Past} (g : Setup → Past → Past) → middle ≡ grown a old → new ≡ grown (g middle.setup middle.past) middle → new ≡ grown (g old.setup a) old
both_stand old g e f = f ∙ ap (λ (x : Kept). grown (g x.setup x.past) x) e

-- some of the Puts
pub cut_puts : (old new : Kept) (i : ℕ) (numbers : List ℕ) (m : Content) → new ≡ grown (put_each (take i numbers) m old.past) old → IsCut old new (put_each numbers m old.past)
cut_puts old new i numbers m e = cut_at e (adds_puts (take i numbers) m old.past) (record {
  front = (
    map (λ q. Put q m) (drop i numbers),
    append_assoc old.past.journal (map (λ q. Put q m) (take i numbers)) (map (λ q. Put q m) (drop i numbers))
        ∙ ap (λ es. old.past.journal ++ es) (sym (map-append (λ q. Put q m) (take i numbers) (drop i numbers)) ∙ ap (map (λ q. Put q m)) (take-append-drop i numbers)),
  );
})
