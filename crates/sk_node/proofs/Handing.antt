-- Calls of the app with one message, one after another.
use Rattle.std.specs.Prelude.{◌≡◌, ◌<◌, ◌≤◌, ◌+◌, ◌-◌, refl, ℕ, Bool, true, false, ◌&&◌, IsTrue, List, [], ◌∷◌, ◌++◌, length, map, get_or, take, drop, Option, Some, slice_get}
use Rattle.std.specs.List.{list_all, filter_map}
use Rattle.std.proofs.Common.{ap, sym, ◌∙◌, subst, append_assoc, append-nil, arith}
use Rattle.std.proofs.lemmas.Bool.{and_parts, and_from}
use Rattle.std.proofs.lemmas.List.{length-append, map-append, take-append-drop, take_more, get_or_append_left}
use Rattle.std.proofs.lemmas.List.Elements.{filter_map-append}
use Rattle.std.proofs.lemmas.List.Folds.{list_all-append}
use Rattle.std.proofs.lemmas.List.Sums.{fold-append}
use Rattle.std.proofs.lemmas.Option.{slice_get-get_or, slice_get_within, get_or_from_slice_get}
use mathlib.Core.List.{IsPrefix}
use Rattle.sk_msg.specs.declared.content.Content.{Content}
use Rattle.sk_msg.specs.declared.entry.Entry.{Entry}
use Rattle.sk_law.specs.declared.made.Call.{Call}
use Rattle.sk_law.specs.declared.made.Call.TheVariants as calls
use Rattle.sk_law.specs.declared.made.Made.{Made}
use Rattle.sk_law.specs.declared.setup.Setup.{Setup}
use Rattle.sk_law.specs.Blocks.{called, callback, callbacks}
use Rattle.sk_law.specs.Growing.{Adds, BlocksAdd}
use Rattle.sk_law.specs.Lawful.{is_filled}
use Rattle.sk_law.specs.Outbox.{are_filled}
use Rattle.sk_law.specs.Past.{Past}
use Rattle.sk_law.specs.Readings.{got, got_from}
use Rattle.sk_law.specs.Told.{message_at}
use Rattle.sk_law.specs.Kept.{Kept, IsCut, grown}
use Rattle.sk_node.specs.Calls.{Calls, CallsCut, CallsAll, CallsAllCut, handings, is_idle}
use Rattle.sk_node.specs.Lists.{Lists}
use Rattle.sk_node.proofs.Calling.{unasked}
use Rattle.sk_node.proofs.Cuts.{both_stand, cut_first, cut_is, cut_then, prefix_both}
use Rattle.sk_node.proofs.Telling.{quiet_none, tells_both, tells_quiet, tells_then}

-- ## Calls that weren't made

-- as if they asked for nothing
abbrev pub unmade : List Call → List Made
unmade all = map unasked all

pub unmade_calls : (all : List Call) → map (λ one. one.call) (unmade all) ≡ all
unmade_calls [] = refl
unmade_calls (c ∷ all) = ap (λ cs. c ∷ cs) (unmade_calls all)

pub unmade_filled : (all : List Call) → list_all is_filled (unmade all) ≡ true
unfolding are_filled
unmade_filled [] = refl
unmade_filled (c ∷ all) = unmade_filled all

pub unmade_idle : (all : List Call) → list_all is_idle (unmade all) ≡ true
unmade_idle [] = refl
unmade_idle (c ∷ all) = unmade_idle all

all_both : {X : Type 0} (p : X → Bool) (xs ys : List X) → list_all p xs ≡ true → list_all p ys ≡ true → list_all p (xs ++ ys) ≡ true
all_both p xs ys e f = list_all-append p xs ys ∙ ap (λ b. b && list_all p ys) e ∙ f

-- one that is filled
one_filled : (one : Made) → IsTrue (is_filled one) → list_all is_filled (one ∷ []) ≡ true
one_filled one h = ap (λ b. b && true) h

-- ## A message at its place

prefix_of_got : (es fs : List Entry) (p : ℕ) → IsPrefix es fs → IsPrefix (got es p) (got fs p)
prefix_of_got es fs p h = (got h.0 p, sym (filter_map-append (got_from p) es h.0) ∙ ap (λ x. got x p) h.1)

at_prefix : {X : Type 0} (xs ys : List X) (k : ℕ) (x : X) → IsPrefix xs ys → slice_get xs k ≡ Some x → slice_get ys k ≡ Some x
at_prefix xs ys k x h e =
    let lt : k < length xs = slice_get_within xs k x e in
    let n : length ys ≡ length xs + length h.0 = ap length (sym h.1) ∙ length-append xs h.0 in
    slice_get-get_or ys k x (omega (arith, n, lt)) ∙ ap Some (ap (λ l. get_or l k x) (sym h.1) ∙ get_or_append_left xs h.0 x k lt ∙ get_or_from_slice_get xs k x x e)

-- it stays there
pub still_there : {old new : Past} (p place : ℕ) (m : Content) → Adds old new → message_at old.journal p place ≡ Some m → message_at new.journal p place ≡ Some m
still_there {old} {new} p place m h e = at_prefix (got old.journal p) (got new.journal p) (place - 1) m (prefix_of_got old.journal new.journal p h.front) e

-- ## One after another

-- nobody is called
pub calls_none : (k : Kept) (was : Lists) → CallsAll k k [] was was
calls_none k was = record {
  each = [];
  calls_are = refl;
  filled = refl;
  made = sym (append-nil was.made);
  past = refl;
  told = tells_quiet was (quiet_none k.past.journal);
}

callbacks_more : (S : Setup) (each : List Made) (one : Made) (past : Past) → callbacks S (each ++ one ∷ []) past ≡ callback S (callbacks S each past) one
callbacks_more S each one past = fold-append (callback S) past each (one ∷ [])

taken_rest : {X : Type 0} (xs : List X) (i : ℕ) (x : X) → i < length xs → x ≡ get_or xs i x → take i xs ++ x ∷ drop (i + 1) xs ≡ xs
taken_rest xs i x lt e =
    sym (append_assoc (take i xs) (x ∷ []) (drop (i + 1) xs)) ∙ ap (λ y. y ++ drop (i + 1) xs) (sym (take_more xs i x lt ∙ ap (λ y. take i xs ++ y ∷ []) (sym e))) ∙ take-append-drop (i + 1) xs

pub item_at : (xs : List ℕ) (i : ℕ) → i < length xs → get_or xs i 0 ≡ get_or xs i (get_or xs i 0)
item_at xs i lt = sym (get_or_from_slice_get xs i (get_or xs i 0) (get_or xs i 0) (slice_get-get_or xs i 0 lt))

-- one call more
pub calls_more : (old now new : Kept) (was mid last : Lists) (p place : ℕ) (m : Content) (i : ℕ) (services : List ℕ) (r : ℕ) → i < length services → r ≡ get_or services i r →
    CallsAll old now (handings p place m (take i services)) was mid → Calls now new (calls.Message p place r m) mid last → CallsAll old new (handings p place m (take (i + 1) services)) was last
calls_more old now new was mid last p place m i services r lt at h c = record {
  each = h.each ++ c.one ∷ [];
  calls_are = map-append (λ one. one.call) h.each (c.one ∷ []) ∙ ap (λ xs. xs ++ c.one.call ∷ []) h.calls_are ∙ ap (λ x. handings p place m (take i services) ++ x ∷ []) c.call_is
      ∙ sym (map-append (λ r. calls.Message p place r m) (take i services) (r ∷ [])) ∙ ap (handings p place m) (sym (take_more services i r lt ∙ ap (λ y. take i services ++ y ∷ []) (sym at)));
  filled = all_both is_filled h.each (c.one ∷ []) h.filled (one_filled c.one c.filled);
  made = c.made ∙ ap (λ xs. xs ++ c.one ∷ []) h.made ∙ append_assoc was.made h.each (c.one ∷ []);
  past = both_stand old (λ S q. callback S q c.one) h.past c.past ∙ ap (λ q. grown q old) (sym (callbacks_more old.setup h.each c.one old.past));
  told = tells_both h.told c.told;
}

-- cut within one of them
pub calls_cut : (adds : BlocksAdd) (old now new : Kept) (was mid last : Lists) (p place : ℕ) (m : Content) (i : ℕ) (services : List ℕ) (r : ℕ) → i < length services → r ≡ get_or services i r →
    CallsAll old now (handings p place m (take i services)) was mid → CallsCut now new (calls.Message p place r m) mid last → CallsAllCut old new (handings p place m services) was last
calls_cut adds old now new was mid last p place m i services r lt at h c = record {
  each = h.each ++ c.made;
  others = c.others ++ rest;
  calls_are = ap (map (λ one. one.call)) (sym whole) ∙ map-append (λ one. one.call) h.each (c.one ∷ rest)
      ∙ ap (λ xs. xs ++ c.one.call ∷ map (λ one. one.call) rest) h.calls_are
      ∙ ap (λ x. handings p place m (take i services) ++ x ∷ map (λ one. one.call) rest) c.call_is
      ∙ ap (λ xs. handings p place m (take i services) ++ calls.Message p place r m ∷ xs) (unmade_calls (handings p place m (drop (i + 1) services)))
      ∙ sym (map-append (λ r. calls.Message p place r m) (take i services) (r ∷ drop (i + 1) services)) ∙ ap (handings p place m) (taken_rest services i r lt at);
  filled = ap (list_all is_filled) (sym whole) ∙ all_both is_filled h.each (c.one ∷ rest) h.filled (all_both is_filled (c.one ∷ []) rest (one_filled c.one c.filled) (unmade_filled (handings p place m (drop (i + 1) services))));
  idle = all_both is_idle c.others rest c.idle (unmade_idle (handings p place m (drop (i + 1) services)));
  uncalled = λ other more e. stood c.made c.others other more c.both e c.uncalled;
  made = c.calls ∙ ap (λ xs. xs ++ c.made) h.made ∙ append_assoc was.made h.each c.made;
  cut = cut_is (ap (λ xs. callbacks old.setup xs old.past) whole)
      (cut_is (sym (fold-append (callback old.setup) old.past h.each (c.one ∷ rest)))
      (cut_first (cut_then (λ S q. callback S q c.one) h.past (adds.calls_all old.setup h.each old.past) c.cut) (adds.calls_all old.setup rest (callback old.setup (callbacks old.setup h.each old.past) c.one))));
  told = tells_then h.told c.told;
}
  where
    rest : List Made
    rest = unmade (handings p place m (drop (i + 1) services))

    done : Past
    done = callbacks old.setup h.each old.past

    -- this call stands as far as it was cut
    answered_front : IsPrefix new.past.journal (callback old.setup done c.one).journal
    answered_front = subst (λ (k : Kept). IsPrefix new.past.journal (callback k.setup k.past c.one).journal) h.past c.cut.front

    shown_front : (call : Call) → IsPrefix new.past.journal (called call now.past).journal → IsPrefix new.past.journal (called call done).journal
    shown_front call f = subst (λ (k : Kept). IsPrefix new.past.journal (called call k.past).journal) h.past f

    -- it was made, and the next one wasn't; or it wasn't
    stood : (made others : List Made) (other : Made) (more : List Made) → made ++ others ≡ c.one ∷ [] → others ++ rest ≡ other ∷ more →
        ((x : Made) → others ≡ x ∷ [] → IsPrefix new.past.journal (called x.call now.past).journal) → IsPrefix new.past.journal (called other.call (callbacks old.setup (h.each ++ made) old.past)).journal
    stood [] [] other more e f u = absurd (cc e)
    stood [] (x ∷ []) other more e f u =
        subst (λ xs. IsPrefix new.past.journal (called other.call (callbacks old.setup xs old.past)).journal) (sym (append-nil h.each))
        (subst (λ (y : Made). IsPrefix new.past.journal (called y.call done).journal) (ap (λ xs. get_or xs 0 x) f) (shown_front x.call (u x refl)))
    stood [] (x ∷ y ∷ ys) other more e f u = absurd (cc e)
    stood (x ∷ []) [] other more e f u =
        subst (λ xs. IsPrefix new.past.journal (called other.call (callbacks old.setup (h.each ++ xs) old.past)).journal) (sym e)
        (subst (λ (q : Past). IsPrefix new.past.journal (called other.call q).journal) (sym (callbacks_more old.setup h.each c.one old.past))
        (prefix_both new.past.journal (callback old.setup done c.one).journal (called other.call (callback old.setup done c.one)).journal answered_front
        (adds.calls other.call (callback old.setup done c.one)).front))
    stood (x ∷ []) (y ∷ ys) other more e f u = absurd (cc e)
    stood (x ∷ y ∷ xs) others other more e f u = absurd (cc e)

    -- those that were called and those that weren't
    whole : h.each ++ c.one ∷ rest ≡ (h.each ++ c.made) ++ (c.others ++ rest)
    whole = ap (λ xs. h.each ++ (xs ++ rest)) (sym c.both) ∙ ap (λ xs. h.each ++ xs) (append_assoc c.made c.others rest) ∙ sym (append_assoc h.each c.made (c.others ++ rest))
