-- What is heard of the links where nothing was got and nobody lost, where one was got, and where one was lost.
use Rattle.std.specs.Prelude.{◌≡◌, ◌≢◌, refl, ℕ, ◌==◌, Bool, true, false, not, ◌&&◌, ◌||◌, List, [], ◌∷◌, ◌++◌, Option, Some, None, if◌then◌else◌, length, nat_le, nat_lt, ◌+◌}
use Rattle.std.specs.List.{fold, filter_map, list_any, list_all}
use Rattle.std.proofs.lemmas.Bool.Decides.{nat_tests}
use Rattle.std.proofs.Common.{arith, ap, sym, ◌∙◌, subst, append_assoc, append-nil}
use Rattle.std.proofs.lemmas.List.Folds.{list_any-append}
use Rattle.std.proofs.lemmas.List.Sums.{fold-append}
use Rattle.std.proofs.lemmas.List.Elements.{filter_map-append}
use Rattle.std.proofs.lemmas.Bool.{ne_eqb}
use Rattle.sk_msg.specs.declared.content.Content.{Content}
use Rattle.sk_msg.specs.declared.content.Content.TheVariants as contents
use Rattle.sk_msg.specs.declared.entry.Entry.{Entry}
use Rattle.sk_msg.specs.declared.entry.Entry.TheVariants.{Got, Put, Hand, State as Entered, System as Judged, Begin, Done, End, Ask, Gone, Stray, Did, Fault}
use Rattle.sk_law.specs.declared.setup.Setup.{Setup}
use Rattle.sk_law.specs.Past.{Past, add}
use Rattle.sk_law.specs.Readings.{got, got_from, gones, gone_of, is_gone, is_gone_entry}
use Rattle.sk_law.specs.Order.{is_leave, has_left}
use Rattle.sk_law.specs.Links.{Seen, Taken, seen, seen_after, unseen, taken, taken_of, of_peer, from, take_in, is_in_order, comes_in_order, is_open, is_peer, is_tool, is_here}
use Rattle.sk_node.specs.Peers.{IsSameLink, HearsNothing, Hears, Loses}
use Rattle.sk_node.proofs.Sparing.{is_calm, Spares}

-- ## Calm entries say nothing of a link

calm_got : (p : ℕ) (es : List Entry) → list_all is_calm es ≡ true → filter_map (got_from p) es ≡ []
calm_got p [] c = refl
calm_got p (Got q m ∷ es) c = absurd cc
calm_got p (Gone q r ∷ es) c = absurd cc
calm_got p (Put q m ∷ es) c = calm_got p es c
calm_got p (Hand q k r ∷ es) c = calm_got p es c
calm_got p (Entered s ∷ es) c = calm_got p es c
calm_got p (Judged s ∷ es) c = calm_got p es c
calm_got p (Begin n t ∷ es) c = calm_got p es c
calm_got p (Done n ∷ es) c = calm_got p es c
calm_got p (End n ∷ es) c = calm_got p es c
calm_got p (Ask a v ∷ es) c = calm_got p es c
calm_got p (Stray n ∷ es) c = calm_got p es c
calm_got p (Did s a m ∷ es) c = calm_got p es c
calm_got p (Fault n ∷ es) c = calm_got p es c

calm_gones : (p : ℕ) (es : List Entry) → list_all is_calm es ≡ true → filter_map (gone_of p) es ≡ []
calm_gones p [] c = refl
calm_gones p (Got q m ∷ es) c = absurd cc
calm_gones p (Gone q r ∷ es) c = absurd cc
calm_gones p (Put q m ∷ es) c = calm_gones p es c
calm_gones p (Hand q k r ∷ es) c = calm_gones p es c
calm_gones p (Entered s ∷ es) c = calm_gones p es c
calm_gones p (Judged s ∷ es) c = calm_gones p es c
calm_gones p (Begin n t ∷ es) c = calm_gones p es c
calm_gones p (Done n ∷ es) c = calm_gones p es c
calm_gones p (End n ∷ es) c = calm_gones p es c
calm_gones p (Ask a v ∷ es) c = calm_gones p es c
calm_gones p (Stray n ∷ es) c = calm_gones p es c
calm_gones p (Did s a m ∷ es) c = calm_gones p es c
calm_gones p (Fault n ∷ es) c = calm_gones p es c

calm_gone : (p : ℕ) (es : List Entry) → list_all is_calm es ≡ true → list_any (is_gone_entry p) es ≡ false
calm_gone p [] c = refl
calm_gone p (Got q m ∷ es) c = absurd cc
calm_gone p (Gone q r ∷ es) c = absurd cc
calm_gone p (Put q m ∷ es) c = calm_gone p es c
calm_gone p (Hand q k r ∷ es) c = calm_gone p es c
calm_gone p (Entered s ∷ es) c = calm_gone p es c
calm_gone p (Judged s ∷ es) c = calm_gone p es c
calm_gone p (Begin n t ∷ es) c = calm_gone p es c
calm_gone p (Done n ∷ es) c = calm_gone p es c
calm_gone p (End n ∷ es) c = calm_gone p es c
calm_gone p (Ask a v ∷ es) c = calm_gone p es c
calm_gone p (Stray n ∷ es) c = calm_gone p es c
calm_gone p (Did s a m ∷ es) c = calm_gone p es c
calm_gone p (Fault n ∷ es) c = calm_gone p es c

-- what came in order is the same
calm_taken : (S : Setup) (tools : List (List ℕ)) (s : Seen) (es : List Entry) → list_all is_calm es ≡ true → (fold (seen_after S tools) s es).taken ≡ s.taken
calm_taken S tools s [] c = refl
calm_taken S tools s (Got q m ∷ es) c = absurd cc
calm_taken S tools s (Gone q r ∷ es) c = absurd cc
calm_taken S tools s (Put q m ∷ es) c = calm_taken S tools s es c
calm_taken S tools s (Hand q k r ∷ es) c = calm_taken S tools s es c
calm_taken S tools s (Entered to ∷ es) c = calm_taken S tools (record s { state = to }) es c
calm_taken S tools s (Judged to ∷ es) c = calm_taken S tools s es c
calm_taken S tools s (Begin n t ∷ es) c = calm_taken S tools s es c
calm_taken S tools s (Done n ∷ es) c = calm_taken S tools s es c
calm_taken S tools s (End n ∷ es) c = calm_taken S tools s es c
calm_taken S tools s (Ask a v ∷ es) c = calm_taken S tools s es c
calm_taken S tools s (Stray n ∷ es) c = calm_taken S tools s es c
calm_taken S tools s (Did a b m ∷ es) c = calm_taken S tools s es c
calm_taken S tools s (Fault n ∷ es) c = calm_taken S tools s es c

-- ## Where nothing was heard

got_same : (p : ℕ) (past now : Past) → Spares past now → got now.journal p ≡ got past.journal p
got_same p past now h =
    ap (filter_map (got_from p)) h.is ∙ filter_map-append (got_from p) past.journal h.new ∙ ap (λ ms. got past.journal p ++ ms) (calm_got p h.new h.calm) ∙ append-nil (got past.journal p)

gones_same : (p : ℕ) (past now : Past) → Spares past now → gones now.journal p ≡ gones past.journal p
gones_same p past now h =
    ap (filter_map (gone_of p)) h.is ∙ filter_map-append (gone_of p) past.journal h.new ∙ ap (λ rs. gones past.journal p ++ rs) (calm_gones p h.new h.calm) ∙ append-nil (gones past.journal p)

or_false : (b : Bool) → (b || false) ≡ b
or_false true = refl
or_false false = refl

gone_same : (p : ℕ) (past now : Past) → Spares past now → is_gone now.journal p ≡ is_gone past.journal p
gone_same p past now h =
    ap (list_any (is_gone_entry p)) h.is ∙ list_any-append (is_gone_entry p) past.journal h.new ∙ ap (λ b. is_gone past.journal p || b) (calm_gone p h.new h.calm) ∙ or_false (is_gone past.journal p)

taken_same : (S : Setup) (past now : Past) → Spares past now → taken S now ≡ taken S past
taken_same S past now h =
    ap (λ tools. (fold (seen_after S tools) unseen now.journal).taken) h.tools
    ∙ ap (λ es. (fold (seen_after S past.memory.tools) unseen es).taken) h.is
    ∙ ap (λ (s : Seen). s.taken) (fold-append (seen_after S past.memory.tools) unseen past.journal h.new)
    ∙ calm_taken S past.memory.tools (seen S past) h.new h.calm

-- by the tools, whether it is gone, and what it said in order
abbrev open_by : Setup → ℕ → List (List ℕ) → Bool → List Taken → Bool
open_by S p tools gone ms = (is_peer S p || (nat_le (length S.names) p && nat_lt p (length S.names + length tools))) && (not gone && not (has_left (of_peer p ms)))

open_same : (S : Setup) (p : ℕ) (past now : Past) → Spares past now → is_open S now p ≡ is_open S past p
open_same S p past now h =
    ap (λ tools. open_by S p tools (is_gone now.journal p) (taken S now)) h.tools
    ∙ ap (λ gone. open_by S p past.memory.tools gone (taken S now)) (gone_same p past now h)
    ∙ ap (open_by S p past.memory.tools (is_gone past.journal p)) (taken_same S past now h)

pub link_same : (S : Setup) (p : ℕ) (past now : Past) → Spares past now → IsSameLink S p past now
link_same S p past now h = record { got_is = got_same p past now h; gones_is = gones_same p past now h; open_is = open_same S p past now h }

pub hears_nothing : (S : Setup) (past now : Past) → Spares past now → HearsNothing S past now
hears_nothing S past now h = record { same = λ p. link_same S p past now h }

-- ## Where a message was got

same_number : (p : ℕ) → (p == p) ≡ true
same_number p = grind (arith, nat_tests)

other_number : (p q : ℕ) → q ≢ p → (p == q) ≡ false
other_number p q n = ne_eqb p q (λ e. n (sym e))

got_own : (p : ℕ) (m : Content) (past : Past) → got (add (Got p m) past).journal p ≡ got past.journal p ++ m ∷ []
got_own p m past = filter_map-append (got_from p) past.journal (Got p m ∷ []) ∙ ap (λ (b : Bool). got past.journal p ++ filter_map (λ (x : Option Content). x) ((if b then Some m else None) ∷ [])) (same_number p)

got_other : (p q : ℕ) (m : Content) (past : Past) → q ≢ p → got (add (Got p m) past).journal q ≡ got past.journal q
got_other p q m past n =
    filter_map-append (got_from q) past.journal (Got p m ∷ [])
    ∙ ap (λ (b : Bool). got past.journal q ++ filter_map (λ (x : Option Content). x) ((if b then Some m else None) ∷ [])) (other_number p q n)
    ∙ append-nil (got past.journal q)

gones_got : (p q : ℕ) (m : Content) (past : Past) → gones (add (Got p m) past).journal q ≡ gones past.journal q
gones_got p q m past = filter_map-append (gone_of q) past.journal (Got p m ∷ []) ∙ append-nil (gones past.journal q)

gone_got : (p q : ℕ) (m : Content) (past : Past) → is_gone (add (Got p m) past).journal q ≡ is_gone past.journal q
gone_got p q m past = list_any-append (is_gone_entry q) past.journal (Got p m ∷ []) ∙ or_false (is_gone past.journal q)

-- what came in order, with this one
taken_got : (S : Setup) (p : ℕ) (m : Content) (past : Past) →
    taken S (add (Got p m) past) ≡ (if comes_in_order S past p m then taken S past ++ record { peer = p; message = m } ∷ [] else taken S past)
taken_got S p m past = ap (λ (s : Seen). s.taken) (fold-append (seen_after S past.memory.tools) unseen past.journal (Got p m ∷ [])) ∙ by (comes_in_order S past p m)
  where
    by : (b : Bool) → (if b then take_in p m (seen S past) else seen S past).taken ≡ (if b then taken S past ++ record { peer = p; message = m } ∷ [] else taken S past)
    by true = refl
    by false = refl

said_own : (p : ℕ) (m : Content) (ms : List Taken) → of_peer p (ms ++ record { peer = p; message = m } ∷ []) ≡ of_peer p ms ++ m ∷ []
said_own p m ms =
    filter_map-append (taken_of p) ms (record { peer = p; message = m } ∷ [])
    ∙ ap (λ (b : Bool). of_peer p ms ++ filter_map (λ (x : Option Content). x) ((if b then Some m else None) ∷ [])) (same_number p)

said_other : (p q : ℕ) (m : Content) (ms : List Taken) → q ≢ p → of_peer q (ms ++ record { peer = p; message = m } ∷ []) ≡ of_peer q ms
said_other p q m ms n =
    filter_map-append (taken_of q) ms (record { peer = p; message = m } ∷ [])
    ∙ ap (λ (b : Bool). of_peer q ms ++ filter_map (λ (x : Option Content). x) ((if b then Some m else None) ∷ [])) (other_number p q n)
    ∙ append-nil (of_peer q ms)

from_got : (S : Setup) (p : ℕ) (m : Content) (past : Past) → comes_in_order S past p m ≡ true → from S (add (Got p m) past) p ≡ from S past p ++ m ∷ []
from_got S p m past e =
    ap (of_peer p) (taken_got S p m past ∙ ap (λ b. if b then taken S past ++ record { peer = p; message = m } ∷ [] else taken S past) e) ∙ said_own p m (taken S past)

from_other : (S : Setup) (p q : ℕ) (m : Content) (past : Past) → q ≢ p → from S (add (Got p m) past) q ≡ from S past q
from_other S p q m past n = ap (of_peer q) (taken_got S p m past) ∙ by (comes_in_order S past p m)
  where
    by : (b : Bool) → of_peer q (if b then taken S past ++ record { peer = p; message = m } ∷ [] else taken S past) ≡ from S past q
    by true = said_other p q m (taken S past) n
    by false = refl

-- by what is said of it
abbrev open_as : Setup → ℕ → Past → Bool → List Content → Bool
open_as S p past gone ms = (is_peer S p || is_tool S past p) && (not gone && not (has_left ms))

open_got_other : (S : Setup) (p q : ℕ) (m : Content) (past : Past) → q ≢ p → is_open S (add (Got p m) past) q ≡ is_open S past q
open_got_other S p q m past n =
    ap (λ gone. open_as S q past gone (from S (add (Got p m) past) q)) (gone_got p q m past) ∙ ap (open_as S q past (is_gone past.journal q)) (from_other S p q m past n)

left_with : (ms : List Content) (m : Content) → has_left (ms ++ m ∷ []) ≡ (has_left ms || is_leave m)
left_with ms m = list_any-append is_leave ms (m ∷ []) ∙ ap (λ b. has_left ms || b) (or_false (is_leave m))

open_got : (S : Setup) (p : ℕ) (m : Content) (past : Past) → comes_in_order S past p m ≡ true →
    is_open S (add (Got p m) past) p ≡ (is_open S past p && (comes_in_order S past p m && not (is_leave m)))
open_got S p m past e =
    ap (λ gone. open_as S p past gone (from S (add (Got p m) past) p)) (gone_got p p m past)
    ∙ ap (open_as S p past (is_gone past.journal p)) (from_got S p m past e)
    ∙ ap (λ left. (is_peer S p || is_tool S past p) && (not (is_gone past.journal p) && not left)) (left_with (from S past p) m)
    ∙ by (is_peer S p || is_tool S past p) (is_gone past.journal p) (has_left (from S past p)) (is_leave m)
    ∙ ap (λ b. is_open S past p && (b && not (is_leave m))) (sym e)
  where
    by : (number gone left leaves : Bool) → (number && (not gone && not (left || leaves))) ≡ ((number && (not gone && not left)) && (true && not leaves))
    by false gone left leaves = refl
    by true true left leaves = refl
    by true false true leaves = refl
    by true false false leaves = refl

pub same_then : (S : Setup) (q : ℕ) (a b c : Past) → IsSameLink S q a b → IsSameLink S q b c → IsSameLink S q a c
same_then S q a b c f g = record { got_is = g.got_is ∙ f.got_is; gones_is = g.gones_is ∙ f.gones_is; open_is = g.open_is ∙ f.open_is }

other_got : (S : Setup) (p q : ℕ) (m : Content) (past : Past) → q ≢ p → IsSameLink S q past (add (Got p m) past)
other_got S p q m past n = record { got_is = got_other p q m past n; gones_is = gones_got p q m past; open_is = open_got_other S p q m past n }

-- it came in order
pub hears_in_order : (S : Setup) (p : ℕ) (m : Content) (past now : Past) → comes_in_order S past p m ≡ true → Spares (add (Got p m) past) now → Hears S p m past now
hears_in_order S p m past now e h = record {
  got_is = got_same p (add (Got p m) past) now h ∙ got_own p m past;
  gones_is =
      gones_same p (add (Got p m) past) now h ∙ gones_got p p m past ∙ sym (append-nil (gones past.journal p))
      ∙ ap (λ (b : Bool). gones past.journal p ++ (if b then [] else 8 ∷ [])) (sym e);
  open_is = open_same S p (add (Got p m) past) now h ∙ open_got S p m past e;
  same = λ q n. same_then S q past (add (Got p m) past) now (other_got S p q m past n) (link_same S q (add (Got p m) past) now h);
}

-- ## Where a link was lost

got_lost : (p q reason : ℕ) (past : Past) → got (add (Gone p reason) past).journal q ≡ got past.journal q
got_lost p q reason past = filter_map-append (got_from q) past.journal (Gone p reason ∷ []) ∙ append-nil (got past.journal q)

gones_own : (p reason : ℕ) (past : Past) → gones (add (Gone p reason) past).journal p ≡ gones past.journal p ++ reason ∷ []
gones_own p reason past =
    filter_map-append (gone_of p) past.journal (Gone p reason ∷ [])
    ∙ ap (λ (b : Bool). gones past.journal p ++ filter_map (λ (x : Option ℕ). x) ((if b then Some reason else None) ∷ [])) (same_number p)

gones_other : (p q reason : ℕ) (past : Past) → q ≢ p → gones (add (Gone p reason) past).journal q ≡ gones past.journal q
gones_other p q reason past n =
    filter_map-append (gone_of q) past.journal (Gone p reason ∷ [])
    ∙ ap (λ (b : Bool). gones past.journal q ++ filter_map (λ (x : Option ℕ). x) ((if b then Some reason else None) ∷ [])) (other_number p q n)
    ∙ append-nil (gones past.journal q)

or_true : (b : Bool) → (b || true) ≡ true
or_true true = refl
or_true false = refl

gone_own : (p reason : ℕ) (past : Past) → is_gone (add (Gone p reason) past).journal p ≡ true
gone_own p reason past =
    list_any-append (is_gone_entry p) past.journal (Gone p reason ∷ []) ∙ ap (λ (b : Bool). is_gone past.journal p || (b || false)) (same_number p) ∙ or_true (is_gone past.journal p)

gone_other : (p q reason : ℕ) (past : Past) → q ≢ p → is_gone (add (Gone p reason) past).journal q ≡ is_gone past.journal q
gone_other p q reason past n =
    list_any-append (is_gone_entry q) past.journal (Gone p reason ∷ []) ∙ ap (λ (b : Bool). is_gone past.journal q || (b || false)) (other_number p q n) ∙ or_false (is_gone past.journal q)

taken_lost : (S : Setup) (p reason : ℕ) (past : Past) → taken S (add (Gone p reason) past) ≡ taken S past
taken_lost S p reason past = ap (λ (s : Seen). s.taken) (fold-append (seen_after S past.memory.tools) unseen past.journal (Gone p reason ∷ []))

and_false : (b c : Bool) → (b && (false && c)) ≡ false
and_false true c = refl
and_false false c = refl

open_lost : (S : Setup) (p reason : ℕ) (past : Past) → is_open S (add (Gone p reason) past) p ≡ false
open_lost S p reason past =
    ap (λ gone. open_as S p past gone (from S (add (Gone p reason) past) p)) (gone_own p reason past)
    ∙ and_false (is_peer S p || is_tool S past p) (not (has_left (from S (add (Gone p reason) past) p)))

other_lost : (S : Setup) (p q reason : ℕ) (past : Past) → q ≢ p → IsSameLink S q past (add (Gone p reason) past)
other_lost S p q reason past n = record {
  got_is = got_lost p q reason past;
  gones_is = gones_other p q reason past n;
  open_is =
      ap (λ gone. open_as S q past gone (from S (add (Gone p reason) past) q)) (gone_other p q reason past n)
      ∙ ap (λ ms. open_as S q past (is_gone past.journal q) (of_peer q ms)) (taken_lost S p reason past);
}

pub loses : (S : Setup) (p reason : ℕ) (past now : Past) → Spares (add (Gone p reason) past) now → Loses S p reason past now
loses S p reason past now h = record {
  got_is = got_same p (add (Gone p reason) past) now h ∙ got_lost p p reason past;
  gones_is = gones_same p (add (Gone p reason) past) now h ∙ gones_own p reason past;
  open_is = open_same S p (add (Gone p reason) past) now h ∙ open_lost S p reason past;
  same = λ q n. same_then S q past (add (Gone p reason) past) now (other_lost S p q reason past n) (link_same S q (add (Gone p reason) past) now h);
}

-- it came out of order, and its link was lost behind it
pub hears_disorder : (S : Setup) (p : ℕ) (m : Content) (past now : Past) → comes_in_order S past p m ≡ false → Loses S p 8 (add (Got p m) past) now → Hears S p m past now
hears_disorder S p m past now e h = record {
  got_is = h.got_is ∙ got_own p m past;
  gones_is = h.gones_is ∙ ap (λ rs. rs ++ 8 ∷ []) (gones_got p p m past) ∙ ap (λ (b : Bool). gones past.journal p ++ (if b then [] else 8 ∷ [])) (sym e);
  open_is = h.open_is ∙ sym (and_false (is_open S past p) (not (is_leave m))) ∙ ap (λ b. is_open S past p && (b && not (is_leave m))) (sym e);
  same = λ q n. same_then S q past (add (Got p m) past) now (other_got S p q m past n) (h.same q n);
}
