-- A call of the app in its parts.
use Rattle.std.specs.Prelude.{◌≡◌, ◌⊎◌, ◌<◌, ◌≤◌, ◌+◌, refl, ℕ, Bool, false, IsTrue, List, [], ◌∷◌, ◌++◌, length, get_or, take, drop, Some, option_to_list}
use Rattle.std.specs.Option.{option_map}
use Rattle.std.proofs.Common.{ap, sym, ◌∙◌, subst, append_assoc, append-nil, arith, inl, inr, ⊎_elim}
use Rattle.std.proofs.lemmas.List.{take-append-drop, take_more}
use Rattle.std.proofs.lemmas.List.Sums.{fold-append}
use mathlib.Core.List.{IsPrefix}
use Rattle.sk_msg.specs.declared.action.Action.{Action}
use Rattle.sk_msg.specs.declared.content.Content.{Content}
use Rattle.sk_msg.specs.declared.entry.Entry.{Entry}
use Rattle.sk_msg.specs.declared.entry.Entry.TheVariants.{Begin, Hand}
use Rattle.sk_law.specs.declared.made.Call.{Call}
use Rattle.sk_law.specs.declared.made.Call.TheVariants as calls
use Rattle.sk_law.specs.declared.made.Heard.{Heard}
use Rattle.sk_law.specs.declared.made.Heard.TheVariants as hearings
use Rattle.sk_law.specs.declared.made.Made.{Made}
use Rattle.sk_law.specs.declared.setup.Setup.{Setup}
use Rattle.sk_law.specs.Blocks.{answer, answers, answered, called, callback, over_after}
use Rattle.sk_law.specs.Growing.{Adds, BlocksAdd, GoesByEntries}
use Rattle.sk_law.specs.Outbox.{Outbox, are_filled}
use Rattle.sk_law.specs.Past.{Past, add}
use Rattle.sk_law.specs.Receivers.{receive}
use Rattle.sk_law.specs.Told.{heard, message_at, notices}
use Rattle.sk_node.specs.Calls.{item, Calls, CallsCut}
use Rattle.sk_law.specs.Kept.{Kept, IsCut, grown}
use Rattle.sk_node.specs.Lists.{Lists, Tells, TellsCut, Whole, Part}
use Rattle.sk_node.proofs.Cuts.{adds_one, both_stand, cut_at, cut_is, cut_none, cut_then, prefix_same}
use Rattle.sk_node.proofs.Telling.{cut_of_tells, quiet_none, tells_both, tells_quiet, tells_then}
use Rattle.sk_node.proofs.Wholes.{part_first, part_is, part_then, whole_is, whole_then}

-- ## Actions

taken_rest : {X : Type 0} (xs : List X) (i : ℕ) (x : X) → i < length xs → x ≡ get_or xs i x → (take i xs ++ x ∷ []) ++ drop (i + 1) xs ≡ xs
taken_rest xs i x lt e = ap (λ y. y ++ drop (i + 1) xs) (sym (take_more xs i x lt ∙ ap (λ y. take i xs ++ y ∷ []) (sym e))) ∙ take-append-drop (i + 1) xs

-- within one of several actions
pub part_answers : (adds : BlocksAdd) (old now new : Kept) (was mid last : Lists) (i : ℕ) (actions : List Action) (a : Action) → i < length actions → a ≡ get_or actions i a →
    Whole old now (answers old.setup (take i actions) old.past) was mid → Part now new (answer now.setup now.past a) mid last → Part old new (answers old.setup actions old.past) was last
part_answers adds old now new was mid last i actions a lt at h p =
    let S : Setup = old.setup in let done : Past = answers S (take i actions) old.past in
    let split : actions ≡ take i actions ++ a ∷ drop (i + 1) actions = sym (taken_rest actions i a lt at) ∙ append_assoc (take i actions) (a ∷ []) (drop (i + 1) actions) in
    let whole : answers S actions old.past ≡ answers S (drop (i + 1) actions) (answer S done a) =
    ap (λ x. answers S x old.past) split ∙ fold-append (answer S) old.past (take i actions) (a ∷ drop (i + 1) actions) in
    let part : Part old new (answer S done a) was last = part_then (λ T q. answer T q a) h (adds.answers_all S (take i actions) old.past) p in
    let all : Part old new (answers S (drop (i + 1) actions) (answer S done a)) was last = part_first part (adds.answers_all S (drop (i + 1) actions) (answer S done a)) in
    part_is (sym whole) all

-- one action more
pub whole_more : (old now new : Kept) (was mid last : Lists) (i : ℕ) (actions : List Action) (a : Action) → i < length actions → a ≡ get_or actions i a →
    Whole old now (answers old.setup (take i actions) old.past) was mid → Whole now new (answer now.setup now.past a) mid last → Whole old new (answers old.setup (take (i + 1) actions) old.past) was last
whole_more old now new was mid last i actions a lt at h w =
    let S : Setup = old.setup in let done : Past = answers S (take i actions) old.past in
    let more : take (i + 1) actions ≡ take i actions ++ a ∷ [] = take_more actions i a lt ∙ ap (λ y. take i actions ++ y ∷ []) (sym at) in
    let whole : answers S (take (i + 1) actions) old.past ≡ answer S done a =
    ap (λ x. answers S x old.past) more ∙ fold-append (answer S) old.past (take i actions) (a ∷ []) in
    whole_is (sym whole) (whole_then (λ T q. answer T q a) h w)

-- ## The call

-- the app has kept a call, and what it heard by it
abbrev pub shown : Lists → List Heard → Made → Lists
shown was more one = record { heard = was.heard ++ more; made = was.made ++ one ∷ []; notified = was.notified }

callback_is : (S : Setup) (past : Past) (call : Call) (out : Outbox) → callback S past (item call out) ≡ answered S out.actions out.over (called call past)
unfolding callback
callback_is S past call out = refl

-- nothing asked for
none_filled : IsTrue (are_filled [] false)
unfolding are_filled
none_filled = refl

-- the call that isn't made
abbrev pub unasked : Call → Made
unasked call = item call (record { actions = []; over = false })

-- what stands is at most what shows the call
front_of : (call : Call) (past : Past) (es : List Entry) → IsPrefix es (called call past).journal → (other : Made) → unasked call ∷ [] ≡ other ∷ [] → IsPrefix es (called other.call past).journal
front_of call past es h other e = subst (λ (ms : List Made). IsPrefix es (called (get_or ms 0 other).call past).journal) e h

-- the app wasn't called, and nothing was added
pub uncalled : (adds : BlocksAdd) (old new : Kept) (call : Call) (was : Lists) → new ≡ old → CallsCut old new call was was
uncalled adds old new call was e =
    let one : Made = unasked call in
    subst (λ x. CallsCut old x call was was) (sym e) (record {
      one = one;
      call_is = refl;
      filled = none_filled;
      made = [];
      others = one ∷ [];
      idle = refl;
      both = refl;
      uncalled = front_of call old.past old.past.journal (adds.calls call old.past).front;
      calls = sym (append-nil was.made);
      cut = cut_none refl (adds.calls_back old.setup old.past one);
      told = cut_of_tells (tells_quiet was (quiet_none old.past.journal));
    })

-- what shows the call was added, and no more
cut_called : (adds : BlocksAdd) (old new : Kept) (call : Call) (out : Outbox) → new ≡ grown (called call old.past) old → IsCut old new (callback old.setup old.past (item call out))
cut_called adds old new call out e =
    let S : Setup = old.setup in let now : Past = called call old.past in
    cut_at e (adds.calls call old.past) (subst (λ x. Adds now x) (sym (callback_is S old.past call out)) (adds.answers_call S out.actions out.over now))

-- what an entry lets the app hear, which is told it in one call
pub record TellsOne (before after : List Entry) (more : List Heard) : Type 0 where
  pub heard_in : heard after ≡ heard before ++ more
  pub notices_is : notices after ≡ notices before
  pub one : length more ≤ 1

tells_shown : (before after : List Entry) (more : List Heard) (was : Lists) (one : Made) → TellsOne before after more → Tells before after was (shown was more one)
tells_shown before after more was one h = record {
  more = more;
  heard_in = h.heard_in;
  heard_is = refl;
  notes = [];
  notices_in = h.notices_is ∙ sym (append-nil (notices before));
  notified_is = sym (append-nil was.notified);
}

untold : (before after : List Entry) (more : List Heard) (was : Lists) → TellsOne before after more → TellsCut before after was was
untold before after more was h = record {
  more = [];
  last = more;
  heard_in = h.heard_in;
  heard_is = sym (append-nil was.heard);
  one = h.one;
  notes = [];
  rest = [];
  notices_in = h.notices_is ∙ sym (append-nil (notices before));
  notified_is = sym (append-nil was.notified);
  two = omega arith;
}

-- the call itself found no memory
pub cut_calling : (adds : BlocksAdd) (old new : Kept) (call : Call) (out : Outbox) (more : List Heard) (was now : Lists) → IsTrue (are_filled out.actions out.over) →
    new ≡ grown (called call old.past) old → TellsOne old.past.journal new.past.journal more → (now ≡ shown was more (item call out)) ⊎ (now ≡ was) → CallsCut old new call was now
cut_calling adds old new call out more was now filled e one h = ⊎_elim
    (λ (i : now ≡ shown was more (item call out)). let r : CallsCut old new call was now = subst (λ x. CallsCut old new call was x) (sym i) kept in r)
    (λ (i : now ≡ was). let r : CallsCut old new call was now = subst (λ x. CallsCut old new call was x) (sym i) none in r) h
  where
    kept : CallsCut old new call was (shown was more (item call out))
    kept = record {
      one = item call out;
      call_is = refl;
      filled = filled;
      made = item call out ∷ [];
      others = [];
      idle = refl;
      both = refl;
      uncalled = λ other e. absurd (cc e);
      calls = refl;
      cut = cut_called adds old new call out e;
      told = cut_of_tells (tells_shown old.past.journal new.past.journal more was (item call out) one);
    }

    stands : IsPrefix new.past.journal (called call old.past).journal
    stands = subst (λ (x : Kept). IsPrefix x.past.journal (called call old.past).journal) (sym e) (prefix_same (called call old.past).journal)

    none : CallsCut old new call was was
    none = record {
      one = unasked call;
      call_is = refl;
      filled = none_filled;
      made = [];
      others = unasked call ∷ [];
      idle = refl;
      both = refl;
      uncalled = front_of call old.past new.past.journal stands;
      calls = sym (append-nil was.made);
      cut = cut_called adds old new call (record { actions = []; over = false }) e;
      told = untold old.past.journal new.past.journal more was one;
    }

-- the answers were cut
pub cut_answering : (adds : BlocksAdd) (old middle new : Kept) (call : Call) (out : Outbox) (more : List Heard) (was mid now : Lists) → IsTrue (are_filled out.actions out.over) →
    middle ≡ grown (called call old.past) old → TellsOne old.past.journal middle.past.journal more → mid ≡ shown was more (item call out) →
    Part middle new (answered middle.setup out.actions out.over middle.past) mid now → CallsCut old new call was now
cut_answering adds old middle new call out more was mid now filled e one m p = record {
  one = item call out;
  call_is = refl;
  filled = filled;
  made = item call out ∷ [];
  others = [];
  idle = refl;
  both = refl;
  uncalled = λ other e. absurd (cc e);
  calls = p.made ∙ ap (λ (x : Lists). x.made) m;
  cut = cut_is (sym (callback_is old.setup old.past call out))
      (cut_then (λ S q. answered S out.actions out.over q) e (adds.calls call old.past) (record { setup = p.setup; out = p.out; grows = p.grows; front = p.front }));
  told = tells_then (subst (λ x. Tells old.past.journal middle.past.journal was x) (sym m) (tells_shown old.past.journal middle.past.journal more was (item call out) one)) p.told;
}

pub call_is : (old middle new : Kept) (call : Call) (out : Outbox) (more : List Heard) (was mid now : Lists) → IsTrue (are_filled out.actions out.over) →
    middle ≡ grown (called call old.past) old → TellsOne old.past.journal middle.past.journal more → mid ≡ shown was more (item call out) →
    Whole middle new (answered middle.setup out.actions out.over middle.past) mid now → Calls old new call was now
call_is old middle new call out more was mid now filled e one m w = record {
  one = item call out;
  call_is = refl;
  filled = filled;
  made = w.made ∙ ap (λ (x : Lists). x.made) m;
  past = both_stand old (λ S q. answered S out.actions out.over q) e w.past ∙ ap (λ (p : Past). grown p old) (sym (callback_is old.setup old.past call out));
  told = tells_both (subst (λ x. Tells old.past.journal middle.past.journal was x) (sym m) (tells_shown old.past.journal middle.past.journal more was (item call out) one)) w.told;
}

-- the app heard nothing by the call
pub no_more : (was now : Lists) (one : Made) → now ≡ record was { made = was.made ++ one ∷ [] } → now ≡ shown was [] one
no_more was now one e = e ∙ ap (λ hs. record was { heard = hs; made = was.made ++ one ∷ [] }) (sym (append-nil was.heard))

pub maybe_no_more : (was now : Lists) (one : Made) → (now ≡ record was { made = was.made ++ one ∷ [] }) ⊎ (now ≡ was) → (now ≡ shown was [] one) ⊎ (now ≡ was)
maybe_no_more was now one h = ⊎_elim
    (λ (e : now ≡ record was { made = was.made ++ one ∷ [] }). let r : (now ≡ shown was [] one) ⊎ (now ≡ was) = inl (no_more was now one e) in r)
    (λ (e : now ≡ was). let r : (now ≡ shown was [] one) ⊎ (now ≡ was) = inr e in r) h

-- ## All answers

answered_is : (S : Setup) (actions all : List Action) (over last : Bool) (past : Past) → all ≡ actions → last ≡ over → over_after S last (answers S all past) ≡ answered S actions over past
answered_is S actions all over last past a o = ap (λ xs. over_after S last (answers S xs past)) a ∙ ap (λ b. over_after S b (answers S actions past)) o

pub part_answering : (adds : BlocksAdd) (old new : Kept) (was now : Lists) (actions all : List Action) (over : Bool) → all ≡ actions → Part old new (answers old.setup all old.past) was now →
    Part old new (answered old.setup actions over old.past) was now
part_answering adds old new was now actions all over a p =
    part_first (subst (λ xs. Part old new (answers old.setup xs old.past) was now) a p) (adds.goes_over old.setup over (answers old.setup actions old.past))

pub part_failing : (adds : BlocksAdd) (old middle new : Kept) (was mid now : Lists) (actions all : List Action) (over last : Bool) → all ≡ actions → last ≡ over →
    Whole old middle (answers old.setup all old.past) was mid → Part middle new (over_after middle.setup last middle.past) mid now → Part old new (answered old.setup actions over old.past) was now
part_failing adds old middle new was mid now actions all over last a o w p =
    part_is (answered_is old.setup actions all over last old.past a o) (part_then (λ S q. over_after S last q) w (adds.answers_all old.setup all old.past) p)

pub whole_answered : (old middle new : Kept) (was mid now : Lists) (actions all : List Action) (over last : Bool) → all ≡ actions → last ≡ over →
    Whole old middle (answers old.setup all old.past) was mid → Whole middle new (over_after middle.setup last middle.past) mid now → Whole old new (answered old.setup actions over old.past) was now
whole_answered old middle new was mid now actions all over last a o w v =
    whole_is (answered_is old.setup actions all over last old.past a o) (whole_then (λ S q. over_after S last q) w v)

-- ## What the entries of a call tell the app

pub tells_ready : (old new : Kept) → new ≡ grown (called calls.Ready old.past) old → TellsOne old.past.journal new.past.journal []
tells_ready old new e =
    subst (λ (x : Kept). TellsOne old.past.journal x.past.journal []) (sym e) (record { heard_in = sym (append-nil (heard old.past.journal)); notices_is = refl; one = omega arith })

pub tells_begin : (goes : GoesByEntries) (old new : Kept) (number at : ℕ) → new ≡ grown (add (Begin number at) old.past) old → TellsOne old.past.journal new.past.journal []
tells_begin goes old new number at e = subst (λ (x : Kept). TellsOne old.past.journal x.past.journal []) (sym e) (record {
  heard_in = goes.heard_is old.past.journal (Begin number at);
  notices_is = goes.notices_is old.past.journal (Begin number at) ∙ append-nil (notices old.past.journal);
  one = omega arith;
})

pub tells_hand : (goes : GoesByEntries) (old new : Kept) (p k r : ℕ) (m : Content) → message_at old.past.journal p k ≡ Some m → new.past.journal ≡ old.past.journal ++ Hand p k r ∷ [] →
    TellsOne old.past.journal new.past.journal (hearings.Message p k r m ∷ [])
tells_hand goes old new p k r m there e = subst (λ es. TellsOne old.past.journal es (hearings.Message p k r m ∷ [])) (sym e) (record {
  heard_in = goes.heard_is old.past.journal (Hand p k r) ∙ ap (λ o. heard old.past.journal ++ option_to_list (option_map (λ x. hearings.Message p k r x) o)) there;
  notices_is = goes.notices_is old.past.journal (Hand p k r) ∙ append-nil (notices old.past.journal);
  one = omega arith;
})

-- the service took it in
pub handed_is : (old shown new : Kept) (p k r : ℕ) (m : Content) → shown ≡ grown (add (Hand p k r) old.past) old → new ≡ grown (receive p m r shown.past) shown → new ≡ grown (called (calls.Message p k r m) old.past) old
handed_is old shown new p k r m e f = f ∙ ap (λ (x : Kept). grown (receive p m r x.past) x) e

-- it didn't, and the app wasn't called
pub cut_receiving : (goes : GoesByEntries) (adds : BlocksAdd) (old new : Kept) (p k r : ℕ) (m : Content) (was : Lists) → message_at old.past.journal p k ≡ Some m → new ≡ grown (add (Hand p k r) old.past) old →
    CallsCut old new (calls.Message p k r m) was was
cut_receiving goes adds old new p k r m was there e = record {
  one = unasked call;
  call_is = refl;
  filled = none_filled;
  made = [];
  others = unasked call ∷ [];
  idle = refl;
  both = refl;
  uncalled = front_of call old.past new.past.journal stands;
  calls = sym (append-nil was.made);
  cut = cut_at e (adds_one (Hand p k r) old.past) (record { front = all.front });
  told = untold old.past.journal new.past.journal (hearings.Message p k r m ∷ []) was (tells_hand goes old new p k r m there (ap (λ (x : Kept). x.past.journal) e));
}
  where
    call : Call
    call = calls.Message p k r m

    stands : IsPrefix new.past.journal (called call old.past).journal
    stands = subst (λ (x : Kept). IsPrefix x.past.journal (called call old.past).journal) (sym e) (prefix_same (called call old.past).journal)

    all : Adds (called call old.past) (callback old.setup old.past (unasked call))
    all = subst (λ x. Adds (called call old.past) x) (sym (callback_is old.setup old.past call (record { actions = []; over = false }))) (adds.answers_call old.setup [] false (called call old.past))
