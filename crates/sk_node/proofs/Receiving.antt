-- What a message leads to in its parts.
use Rattle.std.specs.Prelude.{◌≡◌, ◌≢◌, ◌<◌, ◌+◌, ◌-◌, refl, ℕ, nat_lt, nat_le, ◌==◌, Bool, true, false, not, ◌&&◌, ◌||◌, IsTrue, List, [], ◌∷◌, ◌++◌, length, map, Some, slice_get, if◌then◌else◌}
use Rattle.std.specs.List.{list_all, filter_map}
use Rattle.std.proofs.Common.{ap, ap₂, sym, ◌∙◌, subst, append-nil, arith}
use Rattle.std.proofs.lemmas.Bool.{and_from, and_parts, eq-eqb}
use Rattle.std.proofs.lemmas.List.{length-append}
use mathlib.Core.List.{IsPrefix}
use Rattle.std.proofs.lemmas.Bool.Decides.{nat_tests}
use Rattle.sk_lin.specs.Lin.{is_lin_response}
use Rattle.sk_msg.specs.declared.bus.LinResponse.{LinResponse}
use Rattle.sk_msg.specs.declared.head.Head.{Head}
use Rattle.sk_base.specs.Ranges.{is_payload}
use Rattle.sk_msg.specs.Each.{any}
use Rattle.sk_msg.specs.Rules.{is_head, is_lin_id, is_lin_payload, is_message, is_sent}
use Rattle.sk_msg.specs.declared.content.Content.{Content}
use Rattle.sk_msg.specs.declared.content.Content.TheVariants as contents
use Rattle.sk_msg.specs.declared.entry.Entry.{Entry}
use Rattle.sk_msg.specs.declared.entry.Entry.TheVariants.{Got}
use Rattle.sk_msg.specs.declared.state.State.TheVariants.{Aborting}
use Rattle.sk_law.specs.declared.made.Call.{Call}
use Rattle.sk_law.specs.declared.made.Made.{Made}
use Rattle.sk_law.specs.declared.setup.Setup.{Setup}
use Rattle.sk_law.specs.Blocks.{called, callbacks, enter_if, get, heed, judge_limits, judge_system, lose}
use Rattle.sk_law.specs.Growing.{BlocksAdd, GoesByEntries}
use Rattle.sk_law.specs.Lawful.{AreCalls, Happens, gets}
use Rattle.sk_law.specs.Links.{comes_in_order, is_here, is_open, is_peer, is_tool}
use Rattle.sk_law.specs.Past.{Past, add}
use Rattle.sk_law.specs.Readings.{got, state_of}
use Rattle.sk_law.specs.Receivers.{handed_to, is_over, receivers}
use Rattle.sk_law.specs.Told.{message_at}
use Rattle.sk_law.specs.Kept.{AddsNothing, Kept, IsCut, grown}
use Rattle.sk_node.specs.declared.receive.Purpose.{Purpose}
use Rattle.sk_node.specs.declared.receive.Purpose.TheVariants.{System, Abort, Noted, Handed}
use Rattle.sk_node.specs.Calls.{CallsAll, CallsAllCut, handings}
use Rattle.sk_node.specs.Lists.{IsQuiet, Lists, Part, Whole}
use Rattle.sk_node.specs.Purposes.{noted_of, purpose_of}
use Rattle.sk_node.specs.Takes.{Gets, GetsCut, Heeds, HeedsCut, Takes, TakesCut}
use Rattle.sk_node.proofs.Cuts.{adds_both, adds_one, both_stand, cut_at, cut_first, cut_is, cut_none, cut_then, prefix_both, prefix_same}
use Rattle.sk_node.proofs.Handing.{unmade, unmade_calls, unmade_filled, unmade_idle}
use Rattle.sk_node.proofs.Telling.{cut_of_tells, quiet_none, quiet_same, tells_both, tells_quiet, tells_then}
use Rattle.sk_node.proofs.Wholes.{part_first, part_is, part_none, part_then, quiet_add, whole_add, whole_is, whole_then}

-- a linked one has a number
pub open_within : (S : Setup) (past : Past) (p : ℕ) → IsTrue (is_open S past p) → p < length S.names + length past.memory.tools
open_within S past p h = either (nat_lt p (length S.names)) (not (p == S.number)) (nat_le (length S.names) p) (nat_lt p (length S.names + length past.memory.tools))
    (and_parts (is_peer S p || is_tool S past p) (is_here S past p) h).0 refl refl
  where
    either : (a b c d : Bool) → (a && b) || (c && d) ≡ true → nat_lt p (length S.names) ≡ a → nat_lt p (length S.names + length past.memory.tools) ≡ d → p < length S.names + length past.memory.tools
    either true b c d e f g = let i : p < length S.names = grind (arith, nat_tests) in omega arith
    either false b true true e f g = grind (arith, nat_tests)
    either false b true false e f g = absurd (cc e)
    either false b false d e f g = absurd (cc e)

-- ## The Got

abbrev pub got_it : ℕ → Content → Past → Past
got_it p m past = add (Got p m) past

in_order : (S : Setup) (p : ℕ) (m : Content) (made : List Made) (past : Past) → comes_in_order S past p m ≡ true → heed S p m made (got_it p m past) ≡ get S p m made past
unfolding get
in_order S p m made past e = sym (ap (λ b. if b then heed S p m made (got_it p m past) else lose S p 8 (got_it p m past)) e)

out_of_order : (S : Setup) (p : ℕ) (m : Content) (made : List Made) (past : Past) → comes_in_order S past p m ≡ false → lose S p 8 (got_it p m past) ≡ get S p m made past
unfolding get
out_of_order S p m made past e = sym (ap (λ b. if b then heed S p m made (got_it p m past) else lose S p 8 (got_it p m past)) e)

-- ## Out of order

pub got_nothing : (adds : BlocksAdd) (old new : Kept) (p : ℕ) (m : Content) (was : Lists) → new ≡ old → Part old new (get old.setup p m [] old.past) was was
got_nothing adds old new p m was e = part_none e (adds.gets old.setup p m [] old.past)

whole_got : (goes : GoesByEntries) (old new : Kept) (p : ℕ) (m : Content) (was : Lists) → new ≡ grown (got_it p m old.past) old → Whole old new (got_it p m old.past) was was
whole_got goes old new p m was e = whole_add goes (Got p m) e refl refl

pub whole_lose : (goes : GoesByEntries) (old middle new : Kept) (p : ℕ) (m k : Content) (was now : Lists) → k ≡ m → comes_in_order old.setup old.past p m ≡ false →
    middle ≡ grown (got_it p k old.past) old → Whole middle new (lose middle.setup p 8 middle.past) was now → Whole old new (get old.setup p m [] old.past) was now
whole_lose goes old middle new p m k was now c o e w =
    let is : middle ≡ grown (got_it p m old.past) old = e ∙ ap (λ x. grown (got_it p x old.past) old) c in
    whole_is (out_of_order old.setup p m [] old.past o)
    (whole_then (λ S q. lose S p 8 q) (whole_got goes old middle p m was is) w)

pub part_lose : (goes : GoesByEntries) (old middle new : Kept) (p : ℕ) (m k : Content) (was now : Lists) → k ≡ m → comes_in_order old.setup old.past p m ≡ false →
    middle ≡ grown (got_it p k old.past) old → Part middle new (lose middle.setup p 8 middle.past) was now → Part old new (get old.setup p m [] old.past) was now
part_lose goes old middle new p m k was now c o e w =
    let is : middle ≡ grown (got_it p m old.past) old = e ∙ ap (λ x. grown (got_it p x old.past) old) c in
    part_is (out_of_order old.setup p m [] old.past o)
    (part_then (λ S q. lose S p 8 q) (whole_got goes old middle p m was is) (adds_one (Got p m) old.past) w)

-- then nobody is called
no_receivers : (S : Setup) (past : Past) (p : ℕ) (m : Content) → comes_in_order S past p m ≡ false → receivers S past p m ≡ []
unfolding receivers
no_receivers S past p m e = ap (λ b. if is_over (state_of past.journal) || not b then [] else handed_to S past p m) e ∙ by (is_over (state_of past.journal))
  where
    by : (b : Bool) → (if b || not false then [] else handed_to S past p m) ≡ []
    by true = refl
    by false = refl

none_called : (S : Setup) (past : Past) (p : ℕ) (m : Content) → comes_in_order S past p m ≡ false → AreCalls S past p m []
none_called S past p m e = sym (ap (handings p (length (got past.journal p) + 1) m) (no_receivers S past p m e))

pub gets_lost : (old new : Kept) (p : ℕ) (m : Content) (was now : Lists) → comes_in_order old.setup old.past p m ≡ false → Whole old new (get old.setup p m [] old.past) was now → Gets old new p m was now
gets_lost old new p m was now o w = record {
  each = [];
  calls_are = none_called old.setup old.past p m o;
  filled = refl;
  made = w.made ∙ sym (append-nil was.made);
  past = w.past;
  told = w.told;
}

pub gets_part : (old new : Kept) (p : ℕ) (m : Content) (was now : Lists) → comes_in_order old.setup old.past p m ≡ false → Part old new (get old.setup p m [] old.past) was now → GetsCut old new p m was now
gets_part old new p m was now o w = record {
  each = [];
  others = [];
  calls_are = none_called old.setup old.past p m o;
  filled = refl;
  idle = refl;
  uncalled = λ other more e. absurd (cc e);
  made = w.made ∙ sym (append-nil was.made);
  cut = record { setup = w.setup; out = w.out; grows = w.grows; front = w.front };
  told = w.told;
}

-- ## In order

-- who receives it, once it is known that it came in order
receivers_are : (S : Setup) (past : Past) (p : ℕ) (m : Content) → comes_in_order S past p m ≡ true → (if is_over (state_of past.journal) then [] else handed_to S past p m) ≡ receivers S past p m
unfolding receivers
receivers_are S past p m e = by (is_over (state_of past.journal)) ∙ sym (ap (λ b. if is_over (state_of past.journal) || not b then [] else handed_to S past p m) e)
  where
    by : (b : Bool) → (if b then [] else handed_to S past p m) ≡ (if b || not true then [] else handed_to S past p m)
    by true = refl
    by false = refl

-- its place is behind all that were got before
got_more : (es : List Entry) (p : ℕ) (m : Content) (goes : GoesByEntries) → got (es ++ Got p m ∷ []) p ≡ got es p ++ m ∷ []
got_more es p m goes = goes.got_is p es (Got p m) ∙ ap (λ b. if b then got es p ++ m ∷ [] else got es p) (eq-eqb p p refl)

place_is : (es : List Entry) (p : ℕ) (m : Content) (goes : GoesByEntries) → length (got (es ++ Got p m ∷ []) p) ≡ length (got es p) + 1
place_is es p m goes = ap length (got_more es p m goes) ∙ length-append (got es p) (m ∷ [])

last_at : {X : Type 0} (xs : List X) (x : X) → slice_get (xs ++ x ∷ []) ((length xs + 1) - 1) ≡ Some x
last_at xs x = ap (λ n. slice_get (xs ++ x ∷ []) n) (less (length xs)) ∙ behind xs
  where
    less : (n : ℕ) → (n + 1) - 1 ≡ n
    less n = omega arith

    behind : (ys : List _) → slice_get (ys ++ x ∷ []) (length ys) ≡ Some x
    behind [] = refl
    behind (y ∷ ys) = behind ys

pub got_there : (goes : GoesByEntries) (old middle : Kept) (p : ℕ) (m k : Content) → k ≡ m → middle ≡ grown (got_it p k old.past) old →
    message_at middle.past.journal p (length (got middle.past.journal p)) ≡ Some m
got_there goes old middle p m k c e =
    subst (λ (x : Kept). message_at x.past.journal p (length (got x.past.journal p)) ≡ Some m) (sym (e ∙ ap (λ x. grown (got_it p x old.past) old) c))
    (ap (λ n. slice_get (got (old.past.journal ++ Got p m ∷ []) p) (n - 1)) (place_is old.past.journal p m goes)
    ∙ ap (λ xs. slice_get xs ((length (got old.past.journal p) + 1) - 1)) (got_more old.past.journal p m goes) ∙ last_at (got old.past.journal p) m)

-- messages that aren't for services are handed to nobody
handed_none : (S : Setup) (past : Past) (p : ℕ) (m : Content) → (purpose_of m ≡ Handed → ⊥) → handed_to S past p m ≡ []
handed_none S past p (contents.Reply head client call payload) e = absurd (e refl)
handed_none S past p (contents.LinResponse head response) e = refl
handed_none S past p (contents.Hello name role address) e = absurd (e refl)
handed_none S past p contents.Leave e = absurd (e refl)
handed_none S past p (contents.NextStep at size) e = absurd (e refl)
handed_none S past p (contents.ServiceAdd service) e = absurd (e refl)
handed_none S past p contents.ServicesEnd e = absurd (e refl)
handed_none S past p (contents.Status state until) e = refl
handed_none S past p (contents.Workflow required) e = refl
handed_none S past p contents.Abort e = refl
handed_none S past p (contents.Can head frame) e = absurd (e refl)
handed_none S past p (contents.Eth head payload) e = absurd (e refl)
handed_none S past p (contents.Lin head frame) e = absurd (e refl)
handed_none S past p (contents.Publish head payload) e = absurd (e refl)
handed_none S past p (contents.Call head call payload) e = absurd (e refl)
handed_none S past p (contents.Refuse reason) e = absurd (e refl)

pub nobody : (S : Setup) (past : Past) (p : ℕ) (m : Content) (found : List ℕ) → found ≡ (if is_over (state_of past.journal) then [] else handed_to S past p m) → purpose_of m ≢ Handed → found ≡ []
nobody S past p m found f e = f ∙ by (is_over (state_of past.journal))
  where
    by : (b : Bool) → (if b then [] else handed_to S past p m) ≡ []
    by true = refl
    by false = handed_none S past p m e

-- the Got tells the app nothing
got_quiet : (goes : GoesByEntries) (old middle : Kept) (p : ℕ) (m : Content) → middle ≡ grown (got_it p m old.past) old → IsQuiet old.past.journal middle.past.journal
got_quiet goes old middle p m e = quiet_add goes (Got p m) e refl refl

calls_at : (goes : GoesByEntries) (old middle : Kept) (p : ℕ) (m : Content) (found : List ℕ) (all : List Call) → comes_in_order old.setup old.past p m ≡ true →
    found ≡ (if is_over (state_of old.past.journal) then [] else handed_to old.setup old.past p m) → middle ≡ grown (got_it p m old.past) old →
    all ≡ handings p (length (got middle.past.journal p)) m found → all ≡ handings p (length (got old.past.journal p) + 1) m (receivers old.setup old.past p m)
calls_at goes old middle p m found all o f e a =
    a ∙ ap (λ (x : Kept). handings p (length (got x.past.journal p)) m found) e ∙ ap₂ (λ n rs. handings p n m rs) (place_is old.past.journal p m goes) (f ∙ receivers_are old.setup old.past p m o)

pub gets_heeded : (goes : GoesByEntries) (old middle new : Kept) (p : ℕ) (m k : Content) (found : List ℕ) (was now : Lists) → k ≡ m → comes_in_order old.setup old.past p m ≡ true →
    found ≡ (if is_over (state_of old.past.journal) then [] else handed_to old.setup old.past p m) → middle ≡ grown (got_it p k old.past) old →
    Heeds middle new p m (handings p (length (got middle.past.journal p)) m found) was now → Gets old new p m was now
gets_heeded goes old middle new p m k found was now c o f e h =
    let is : middle ≡ grown (got_it p m old.past) old = e ∙ ap (λ x. grown (got_it p x old.past) old) c in
    record {
      each = h.each;
      calls_are = calls_at goes old middle p m found (map (λ one. one.call) h.each) o f is h.calls_are;
      filled = h.filled;
      made = h.made;
      past = both_stand old (λ S q. heed S p m h.each q) is h.past ∙ ap (λ (q : Past). grown q old) (in_order old.setup p m h.each old.past o);
      told = tells_both (tells_quiet was (got_quiet goes old middle p m is)) h.told;
    }

pub gets_cut : (goes : GoesByEntries) (old middle new : Kept) (p : ℕ) (m k : Content) (found : List ℕ) (was now : Lists) → k ≡ m → comes_in_order old.setup old.past p m ≡ true →
    found ≡ (if is_over (state_of old.past.journal) then [] else handed_to old.setup old.past p m) → middle ≡ grown (got_it p k old.past) old →
    HeedsCut middle new p m (handings p (length (got middle.past.journal p)) m found) was now → GetsCut old new p m was now
gets_cut goes old middle new p m k found was now c o f e h =
    let is : middle ≡ grown (got_it p m old.past) old = e ∙ ap (λ x. grown (got_it p x old.past) old) c in
    record {
      each = h.each;
      others = h.others;
      calls_are = calls_at goes old middle p m found (map (λ one. one.call) (h.each ++ h.others)) o f is h.calls_are;
      filled = h.filled;
      idle = h.idle;
      uncalled = λ other more e.
          subst (λ (q : Past). IsPrefix new.past.journal (called other.call q).journal) (ap (λ (k : Kept). heed k.setup p m h.each k.past) is ∙ in_order old.setup p m h.each old.past o) (h.uncalled other more e);
      made = h.made;
      cut = cut_is (in_order old.setup p m (h.each ++ h.others) old.past o) (cut_then (λ S q. heed S p m (h.each ++ h.others) q) is (adds_one (Got p m) old.past) h.cut);
      told = tells_then (tells_quiet was (got_quiet goes old middle p m is)) h.told;
    }

-- before the Got nothing was done: those who receive it weren't called
pub gets_none : (adds : BlocksAdd) (old new : Kept) (p : ℕ) (m : Content) (was : Lists) → new ≡ old → GetsCut old new p m was was
gets_none adds old new p m was e = subst (λ x. GetsCut old x p m was was) (sym e) (record {
  each = [];
  others = unmade all;
  calls_are = unmade_calls all;
  filled = unmade_filled all;
  idle = unmade_idle all;
  uncalled = λ other more e. (adds_both (adds.gets old.setup p m [] old.past) (adds.calls other.call (get old.setup p m [] old.past))).front;
  made = sym (append-nil was.made);
  cut = cut_none refl (adds.gets old.setup p m (unmade all) old.past);
  told = cut_of_tells (tells_quiet was (quiet_none old.past.journal));
})
  where
    all : List Call
    all = handings p (length (got old.past.journal p) + 1) m (receivers old.setup old.past p m)

-- ## By its kind

-- what follows a message of this kind
abbrev pub heeded : Purpose → Setup → ℕ → Content → List Made → Past → Past
heeded System S p m made past = judge_system S past
heeded Abort S p m made past = enter_if S Aborting past
heeded Noted S p m made past = noted_of S p m past
heeded Handed S p m made past = callbacks S made past

heed_is : (S : Setup) (p : ℕ) (m : Content) (made : List Made) (past : Past) → heeded (purpose_of m) S p m made past ≡ heed S p m made past
unfolding heed
heed_is S p (contents.LinResponse head response) made past = refl
heed_is S p (contents.Hello name role address) made past = refl
heed_is S p contents.Leave made past = refl
heed_is S p (contents.NextStep at size) made past = refl
heed_is S p (contents.ServiceAdd service) made past = refl
heed_is S p contents.ServicesEnd made past = refl
heed_is S p (contents.Status state until) made past = refl
heed_is S p (contents.Workflow required) made past = refl
heed_is S p contents.Abort made past = refl
heed_is S p (contents.Can head frame) made past = refl
heed_is S p (contents.Eth head payload) made past = refl
heed_is S p (contents.Lin head frame) made past = refl
heed_is S p (contents.Publish head payload) made past = refl
heed_is S p (contents.Call head call payload) made past = refl
heed_is S p (contents.Reply head client call payload) made past = refl
heed_is S p (contents.Refuse reason) made past = refl

by_kind : (k : Purpose) (S : Setup) (p : ℕ) (m : Content) (made : List Made) (past : Past) → k ≡ purpose_of m → heeded k S p m made past ≡ heed S p m made past
by_kind k S p m made past e = ap (λ x. heeded x S p m made past) e ∙ heed_is S p m made past

-- a message of another kind isn't handed
pub other_than : (k : Purpose) (m : Content) → k ≡ purpose_of m → (k ≡ Handed → ⊥) → purpose_of m ≢ Handed
other_than k m e f h = f (e ∙ h)

-- where it is handed to nobody
pub heeds_whole : (k : Purpose) (old new : Kept) (p place : ℕ) (m : Content) (found : List ℕ) (was now : Lists) → k ≡ purpose_of m → found ≡ [] → Whole old new (heeded k old.setup p m [] old.past) was now →
    Heeds old new p m (handings p place m found) was now
heeds_whole k old new p place m found was now e f w = record {
  each = [];
  calls_are = sym (ap (handings p place m) f);
  filled = refl;
  made = w.made ∙ sym (append-nil was.made);
  past = w.past ∙ ap (λ (q : Past). grown q old) (by_kind k old.setup p m [] old.past e);
  told = w.told;
}

pub heeds_part : (k : Purpose) (old new : Kept) (p place : ℕ) (m : Content) (found : List ℕ) (was now : Lists) → k ≡ purpose_of m → found ≡ [] → Part old new (heeded k old.setup p m [] old.past) was now →
    HeedsCut old new p m (handings p place m found) was now
heeds_part k old new p place m found was now e f w = record {
  each = [];
  others = [];
  calls_are = sym (ap (handings p place m) f);
  filled = refl;
  idle = refl;
  uncalled = λ other more e. absurd (cc e);
  made = w.made ∙ sym (append-nil was.made);
  cut = cut_is (by_kind k old.setup p m [] old.past e) (record { setup = w.setup; out = w.out; grows = w.grows; front = w.front });
  told = w.told;
}

-- where it is handed on
pub heeds_calls : (old new : Kept) (p : ℕ) (m : Content) (all : List Call) (was now : Lists) → Handed ≡ purpose_of m → CallsAll old new all was now → Heeds old new p m all was now
heeds_calls old new p m all was now e h = record {
  each = h.each;
  calls_are = h.calls_are;
  filled = h.filled;
  made = h.made;
  past = h.past ∙ ap (λ (q : Past). grown q old) (by_kind Handed old.setup p m h.each old.past e);
  told = h.told;
}

pub heeds_calls_cut : (old new : Kept) (p : ℕ) (m : Content) (all : List Call) (was now : Lists) → Handed ≡ purpose_of m → CallsAllCut old new all was now → HeedsCut old new p m all was now
heeds_calls_cut old new p m all was now e h = record {
  each = h.each;
  others = h.others;
  calls_are = h.calls_are;
  filled = h.filled;
  idle = h.idle;
  uncalled = λ other more f. subst (λ (q : Past). IsPrefix new.past.journal (called other.call q).journal) (by_kind Handed old.setup p m h.each old.past e) (h.uncalled other more f);
  made = h.made;
  cut = cut_is (by_kind Handed old.setup p m (h.each ++ h.others) old.past e) h.cut;
  told = h.told;
}

-- the response of a message keeps the rules of responses
pub good_response : (head : Head) (r : LinResponse) → IsTrue (is_message (contents.LinResponse head r)) → IsTrue (is_lin_response r)
unfolding is_message is_lin_response
good_response head r h =
    let payload = is_lin_payload (is_sent r.mode) r.checksum r.payload in
    let a = and_parts (is_head head) (is_lin_id r.id && (any r.mode && (any r.checksum && (is_payload r.payload && payload)))) h in
    let b = and_parts (is_lin_id r.id) (any r.mode && (any r.checksum && (is_payload r.payload && payload))) a.1 in
    let c = and_parts (any r.mode) (any r.checksum && (is_payload r.payload && payload)) b.1 in
    let d = and_parts (any r.checksum) (is_payload r.payload && payload) c.1 in
    and_from (is_lin_id r.id) payload b.0 (and_parts (is_payload r.payload) payload d.1).1

-- a response is noted: no entry came
noted_entries : (S : Setup) (p : ℕ) (m : Content) (past : Past) → (noted_of S p m past).journal ≡ past.journal
noted_entries S p (contents.LinResponse head response) past = refl
noted_entries S p (contents.Hello name role address) past = refl
noted_entries S p contents.Leave past = refl
noted_entries S p (contents.NextStep at size) past = refl
noted_entries S p (contents.ServiceAdd service) past = refl
noted_entries S p contents.ServicesEnd past = refl
noted_entries S p (contents.Status state until) past = refl
noted_entries S p (contents.Workflow required) past = refl
noted_entries S p contents.Abort past = refl
noted_entries S p (contents.Can head frame) past = refl
noted_entries S p (contents.Eth head payload) past = refl
noted_entries S p (contents.Lin head frame) past = refl
noted_entries S p (contents.Publish head payload) past = refl
noted_entries S p (contents.Call head call payload) past = refl
noted_entries S p (contents.Reply head client call payload) past = refl
noted_entries S p (contents.Refuse reason) past = refl

pub whole_noted : (old new : Kept) (p : ℕ) (m : Content) (was : Lists) → new ≡ grown (noted_of old.setup p m old.past) old → Whole old new (noted_of old.setup p m old.past) was was
whole_noted old new p m was e = record {
  past = e;
  made = refl;
  told = tells_quiet was (quiet_same (ap (λ (k : Kept). k.past.journal) e ∙ noted_entries old.setup p m old.past));
}

pub part_noted : (old new : Kept) (p : ℕ) (m : Content) (was : Lists) → AddsNothing old new → Part old new (noted_of old.setup p m old.past) was was
part_noted old new p m was h = record {
  setup = h.setup;
  out = h.out;
  grows = subst (λ es. IsPrefix old.past.journal es) (sym h.entries) (prefix_same old.past.journal);
  front = subst (λ es. IsPrefix es (noted_of old.setup p m old.past).journal) (sym h.entries) (subst (λ es. IsPrefix old.past.journal es) (sym (noted_entries old.setup p m old.past)) (prefix_same old.past.journal));
  made = refl;
  told = cut_of_tells (tells_quiet was (quiet_same h.entries));
}

-- ## With the limits behind it

pub takes_all : (adds : BlocksAdd) (old middle new : Kept) (p : ℕ) (m : Content) (was mid now : Lists) → IsTrue (is_open old.setup old.past p) → Gets old middle p m was mid →
    Whole middle new (judge_limits middle.setup middle.past) mid now → Takes old new p m was now
takes_all adds old middle new p m was mid now o h w = record {
  went = record {
    made = h.each;
    calls = w.made ∙ h.made;
    past = get old.setup p m h.each old.past;
    happens = gets p m h.each o h.calls_are h.filled;
    whole = both_stand old (λ S q. judge_limits S q) h.past w.past;
    told = tells_both h.told w.told;
  };
  gets = refl;
  calls_are = h.calls_are;
}

-- cut before them
pub takes_cut : (adds : BlocksAdd) (old new : Kept) (p : ℕ) (m : Content) (was now : Lists) → IsTrue (is_open old.setup old.past p) → GetsCut old new p m was now → TakesCut old new p m was now
takes_cut adds old new p m was now o h = record {
  went = record {
    made = h.each;
    calls = h.made;
    others = h.others;
    idle = h.idle;
    past = get old.setup p m (h.each ++ h.others) old.past;
    happens = gets p m (h.each ++ h.others) o h.calls_are h.filled;
    cut = cut_first h.cut (adds.limits old.setup (get old.setup p m (h.each ++ h.others) old.past));
    told = h.told;
  };
  uncalled = h.uncalled;
  gets = refl;
  calls_are = h.calls_are;
}

-- cut within them
pub takes_limited : (adds : BlocksAdd) (old middle new : Kept) (p : ℕ) (m : Content) (was mid now : Lists) → IsTrue (is_open old.setup old.past p) → Gets old middle p m was mid →
    Part middle new (judge_limits middle.setup middle.past) mid now → TakesCut old new p m was now
takes_limited adds old middle new p m was mid now o h w =
    let same : h.each ≡ h.each ++ [] = sym (append-nil h.each) in
    record {
      went = record {
        made = h.each;
        calls = w.made ∙ h.made;
        others = [];
        idle = refl;
        past = get old.setup p m h.each old.past;
        happens = subst (λ xs. Happens old.setup old.past xs (get old.setup p m h.each old.past)) same (gets p m h.each o h.calls_are h.filled);
        cut = cut_then (λ S q. judge_limits S q) h.past (adds.gets old.setup p m h.each old.past) (record { setup = w.setup; out = w.out; grows = w.grows; front = w.front });
        told = tells_then h.told w.told;
      };
      uncalled = λ other more e. absurd (cc e);
      gets = ap (λ xs. get old.setup p m xs old.past) same;
      calls_are = subst (λ xs. AreCalls old.setup old.past p m xs) same h.calls_are;
    }
