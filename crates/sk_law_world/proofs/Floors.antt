-- What is announced, and what is sent behind an announcement.
use Rattle.std.specs.Prelude.{◌≡◌, ◌<◌, ◌≤◌, ◌*◌, ◌+◌, refl, ℕ, Bool, true, false, IsTrue, IfSome, List, [], ◌∷◌, ◌++◌, Option, Some, None, is_none, cond, unwrap_or}
use Rattle.std.specs.List.{count_by}
use Rattle.std.proofs.lemmas.Bool.{and_parts}
use Rattle.std.proofs.lemmas.List.Sums.{sum_by-append}
use Rattle.std.proofs.Math.Nat.{suc-mul, zero-mul}
use Rattle.std.proofs.Common.{ap, sym, ◌∙◌, subst, arith, append_assoc, append-nil}
use Rattle.sk_msg.specs.declared.content.Content.{Content}
use Rattle.sk_msg.specs.declared.content.Content.TheVariants as contents
use Rattle.sk_msg.specs.declared.entry.Entry.{Entry}
use Rattle.sk_msg.specs.declared.entry.Entry.TheVariants.{Got, Put, Hand, State as Entered, System as Judged, Begin, Done, End, Ask, Gone, Stray, Did, Fault}
use Rattle.sk_law.specs.declared.made.Made.{Made}
use Rattle.sk_law.specs.declared.setup.Setup.{Setup}
use Rattle.sk_law.specs.declared.memory.Memory.{Memory}
use Rattle.sk_law.specs.Past.{Past}
use Rattle.sk_law.specs.declared.memory.Begun.{Begun}
use Rattle.sk_law.specs.Readings.{begun_after, open_after, last_begun, open_step, next_time, time_after, number_of, is_begin}
use Rattle.sk_msg.specs.Heads.{head_of}
use Rattle.sk_law.specs.Rows.{may_begin}
use Rattle.sk_law_world.specs.Meets.{Meets, MayPut, EachMeets}
use Rattle.sk_law_world.specs.Announced.{AnnouncedAreMultiples, AnnouncedNeverFall, SentAfterAnnounced}
use Rattle.sk_law.specs.Lawful.{Lawful}
use Rattle.sk_law_world.proofs.Built.{last_begun-add, open_step-add, opened_is_last}
use Rattle.sk_law_world.proofs.Meetings.{lawful_meets}

-- ## Along a journal

-- what holds of a front and is kept by each entry that meets its rule holds of the whole
pub along : (S : Setup) (P : List Entry → Type 0) → ((es : List Entry) (memory : Memory) (e : Entry) → Meets S (record { journal = es; memory = memory }) e → P es → P (es ++ e ∷ [])) →
    (es rest : List Entry) → EachMeets S (es ++ rest) → P es → P (es ++ rest)
along S P keep es [] meets h = subst P (sym (append-nil es)) h
along S P keep es (e ∷ rest) meets h =
    let here = meets es e rest refl in
    subst P (append_assoc es (e ∷ []) rest)
    (along S P keep (es ++ e ∷ []) rest (subst (EachMeets S) (sym (append_assoc es (e ∷ []) rest)) meets) (keep es here.0 e here.1 h))

-- ## No step that is begun is below what was announced

size_of : Setup → ℕ
size_of S = unwrap_or S.step 0

-- at isn't above the time of the open step, or where none is open that of the next one
abbrev IsBelow : ℕ → ℕ → Option Begun → Option Begun → Type 0
IsBelow size at (Some step) last = at ≤ step.time
IsBelow size at None last = at ≤ time_after size last

Floor : Setup → ℕ → List Entry → Type 0
Floor S at es = IsBelow (size_of S) at (open_step es) (last_begun es)

still : (S : Setup) (at : ℕ) (es : List Entry) (e : Entry) → open_after (open_step es) e ≡ open_step es → begun_after (last_begun es) e ≡ last_begun es → Floor S at es → Floor S at (es ++ e ∷ [])
unfolding Floor
still S at es e same begun h =
    subst (λ o. IsBelow (size_of S) at o (last_begun (es ++ e ∷ []))) (sym (open_step-add es e ∙ same))
    (subst (IsBelow (size_of S) at (open_step es)) (sym (last_begun-add es e ∙ begun)) h)

pub closed_at : (S : Setup) (past : Past) → IsTrue (may_begin S past) → open_step past.journal ≡ None
unfolding may_begin
closed_at S past may = none (open_step past.journal) (by S.step may)
  where
    none : (o : Option Begun) → is_none o ≡ true → o ≡ None
    none None h = refl
    none (Some b) h = absurd cc

    by : (step : Option ℕ) → IsTrue (may_begin (record S { step = step }) past) → is_none (open_step past.journal) ≡ true
    by None h = absurd cc
    by (Some size) h = (and_parts (is_none (open_step past.journal)) _ h).0

begun_floor : (S : Setup) (at : ℕ) (es : List Entry) (n t : ℕ) → open_step es ≡ None → t ≡ next_time (size_of S) es → Floor S at es → Floor S at (es ++ Begin n t ∷ [])
unfolding Floor
begun_floor S at es n t closed time h =
    let low : at ≤ time_after (size_of S) (last_begun es) = subst (λ o. IsBelow (size_of S) at o (last_begun es)) closed h in
    subst (λ o. IsBelow (size_of S) at o (last_begun (es ++ Begin n t ∷ []))) (sym (open_step-add es (Begin n t)))
    (let r : at ≤ t = subst (λ x. at ≤ x) (sym time) low in r)

ended_floor : (S : Setup) (at : ℕ) (es : List Entry) (n : ℕ) (step : Begun) → open_step es ≡ Some step → Floor S at es → Floor S at (es ++ End n ∷ [])
unfolding Floor
ended_floor S at es n step is h =
    let low : at ≤ step.time = subst (λ o. IsBelow (size_of S) at o (last_begun es)) is h in
    let last : last_begun es ≡ Some step = opened_is_last es None None (λ b f. f) step is in
    subst (λ o. IsBelow (size_of S) at o (last_begun (es ++ End n ∷ []))) (sym (open_step-add es (End n)))
    (subst (IsBelow (size_of S) at None) (sym (last_begun-add es (End n) ∙ last)) (let r : at ≤ step.time + size_of S = omega arith in r))

floor_kept : (S : Setup) (at : ℕ) (es : List Entry) (memory : Memory) (e : Entry) → Meets S (record { journal = es; memory = memory }) e → Floor S at es → Floor S at (es ++ e ∷ [])
unfolding size_of
floor_kept S at es memory (Begin n t) meets h =
    begun_floor S at es n t (closed_at S (record { journal = es; memory = memory }) meets.may) meets.time h
floor_kept S at es memory (End n) meets h = ended_floor S at es n meets.step meets.is_open h
floor_kept S at es memory (Got p m) meets h = still S at es (Got p m) refl refl h
floor_kept S at es memory (Put p m) meets h = still S at es (Put p m) refl refl h
floor_kept S at es memory (Hand p k r) meets h = still S at es (Hand p k r) refl refl h
floor_kept S at es memory (Entered s) meets h = still S at es (Entered s) refl refl h
floor_kept S at es memory (Judged s) meets h = still S at es (Judged s) refl refl h
floor_kept S at es memory (Done n) meets h = still S at es (Done n) refl refl h
floor_kept S at es memory (Ask c v) meets h = still S at es (Ask c v) refl refl h
floor_kept S at es memory (Gone p r) meets h = still S at es (Gone p r) refl refl h
floor_kept S at es memory (Stray n) meets h = still S at es (Stray n) refl refl h
floor_kept S at es memory (Did s c m) meets h = still S at es (Did s c m) refl refl h
floor_kept S at es memory (Fault n) meets h = still S at es (Fault n) refl refl h

-- an announcement is the floor from then on
announced_floor : (S : Setup) (past : Past) (p at size : ℕ) → MayPut S past (contents.NextStep at size) → Floor S at (past.journal ++ Put p (contents.NextStep at size) ∷ [])
unfolding Floor size_of
announced_floor S past p at size may = still S at past.journal (Put p (contents.NextStep at size)) refl refl
    (subst (λ o. IsBelow (size_of S) at o (last_begun past.journal)) (sym may.2)
    (subst (λ o. at ≤ time_after (unwrap_or o 0) (last_begun past.journal)) (sym may.0) (subst (λ x. at ≤ x) may.1 (omega arith))))

marked_above : (S : Setup) (past : Past) (at stamp' mark' : ℕ) → stamp' ≡ time_after 0 (last_begun past.journal) → mark' ≡ number_of (open_step past.journal) → Floor S at past.journal →
    0 < mark' → at ≤ stamp'
unfolding Floor
marked_above S past at stamp' mark' stamped marked h some = on (open_step past.journal) refl
  where
    on : (o : Option Begun) → open_step past.journal ≡ o → at ≤ stamp'
    on None e = let none = marked ∙ ap number_of e in absurd (omega arith)
    on (Some step) e =
        let low : at ≤ step.time = subst (λ o. IsBelow (size_of S) at o (last_begun past.journal)) e h in
        let last = ap (time_after 0) (opened_is_last past.journal None None (λ b f. f) step e) in
        omega arith

sent_above : (S : Setup) (past : Past) (at : ℕ) (m : Content) → MayPut S past m → Floor S at past.journal → IfSome (head_of m) (λ s. 0 < s.mark → at ≤ s.stamp)
sent_above S past at (contents.Can head' frame) may h = marked_above S past at head'.stamp head'.mark may.0 may.1 h
sent_above S past at (contents.Eth head' payload) may h = marked_above S past at head'.stamp head'.mark may.0 may.1 h
sent_above S past at (contents.Lin head' frame) may h = marked_above S past at head'.stamp head'.mark may.0 may.1 h
sent_above S past at (contents.LinResponse head' response) may h = marked_above S past at head'.stamp head'.mark may.0 may.1 h
sent_above S past at (contents.Publish head' payload) may h = marked_above S past at head'.stamp head'.mark may.0 may.1 h
sent_above S past at (contents.Call head' call payload) may h = marked_above S past at head'.stamp head'.mark may.0 may.1 h
sent_above S past at (contents.Reply head' client call payload) may h = marked_above S past at head'.stamp head'.mark may.0 may.1 h
sent_above S past at (contents.NextStep time size) may h = tt
sent_above S past at (contents.Hello name role address) may h = tt
sent_above S past at contents.Leave may h = tt
sent_above S past at (contents.ServiceAdd service) may h = tt
sent_above S past at contents.ServicesEnd may h = tt
sent_above S past at (contents.Status state until) may h = tt
sent_above S past at (contents.Workflow required) may h = tt
sent_above S past at contents.Abort may h = tt
sent_above S past at (contents.Refuse reason) may h = tt

at_put : (S : Setup) (past : Past) (made : List Made) → Lawful S past made → (before : List Entry) (p at size : ℕ) (between : List Entry) (e : Entry) (after : List Entry) →
    past.journal ≡ before ++ Put p (contents.NextStep at size) ∷ (between ++ e ∷ after) →
    (memory : Memory) × Meets S (record { journal = (before ++ Put p (contents.NextStep at size) ∷ []) ++ between; memory = memory }) e
    × Floor S at ((before ++ Put p (contents.NextStep at size) ∷ []) ++ between)
at_put S past made law before p at size between e after is =
    let put : Entry = Put p (contents.NextStep at size) in
    let all : EachMeets S past.journal = lawful_meets S past made law in
    let first = all before put (between ++ e ∷ after) is in
    let whole : past.journal ≡ (before ++ put ∷ []) ++ (between ++ e ∷ after) = is ∙ sym (append_assoc before (put ∷ []) (between ++ e ∷ after)) in
    let split : past.journal ≡ ((before ++ put ∷ []) ++ between) ++ e ∷ after = whole ∙ sym (append_assoc (before ++ put ∷ []) between (e ∷ after)) in
    let then = all ((before ++ put ∷ []) ++ between) e after split in
    let floor : Floor S at (before ++ put ∷ []) = announced_floor S (record { journal = before; memory = first.0 }) p at size first.1 in
    let front : EachMeets S ((before ++ put ∷ []) ++ between) = (λ b x a f. all b x (a ++ e ∷ after) (split ∙ ap (λ es. es ++ e ∷ after) f ∙ append_assoc b (x ∷ a) (e ∷ after))) in
    (then.0, then.1, along S (Floor S at) (floor_kept S at) (before ++ put ∷ []) between front floor)

pub never_fall : AnnouncedNeverFall
unfolding Floor size_of
never_fall S past made law before p at size between q then length after is =
    let h = at_put S past made law before p at size between (Put q (contents.NextStep then length)) after is in
    let es : List Entry = (before ++ Put p (contents.NextStep at size) ∷ []) ++ between in
    let low : at ≤ time_after (unwrap_or S.step 0) (last_begun es) = subst (λ o. IsBelow (size_of S) at o (last_begun es)) h.1.2 h.2 in
    subst (λ x. at ≤ x) (ap (λ o. time_after (unwrap_or o 0) (last_begun es)) h.1.0 ∙ sym h.1.1) low

pub sent_after : SentAfterAnnounced
sent_after S past made law before p at size between q m after is =
    let h = at_put S past made law before p at size between (Put q m) after is in
    sent_above S (record { journal = (before ++ Put p (contents.NextStep at size) ∷ []) ++ between; memory = h.0 }) at m h.1 h.2

-- ## Multiples

abbrev Timed : Setup → List Entry → Type 0
Timed S es = next_time (size_of S) es ≡ count_by is_begin es * size_of S

uncounted : (k : ℕ) (b : Bool) → b ≡ false → k + (0 + cond b 1 0) ≡ k
uncounted k true h = absurd cc
uncounted k false h = omega arith

idle : (S : Setup) (es : List Entry) (e : Entry) → is_begin e ≡ false → begun_after (last_begun es) e ≡ last_begun es → Timed S es → Timed S (es ++ e ∷ [])
idle S es e none same h =
    ap (time_after (size_of S)) (last_begun-add es e ∙ same) ∙ h ∙ ap (λ k. k * size_of S) (sym (sum_by-append (λ x. cond (is_begin x) 1 0) es (e ∷ []) ∙ uncounted (count_by is_begin es) (is_begin e) none))

timed_begin : (S : Setup) (es : List Entry) (t : ℕ) → t ≡ next_time (unwrap_or S.step 0) es → t ≡ next_time (size_of S) es
unfolding size_of
timed_begin S es t h = h

timed_kept : (S : Setup) (es : List Entry) (memory : Memory) (e : Entry) → Meets S (record { journal = es; memory = memory }) e → Timed S es → Timed S (es ++ e ∷ [])
timed_kept S es memory (Begin n t) meets h =
    ap (time_after (size_of S)) (last_begun-add es (Begin n t))
    ∙ ap (λ x. x + size_of S) (timed_begin S es t meets.time ∙ h)
    ∙ sym (suc-mul (count_by is_begin es) (size_of S))
    ∙ ap (λ k. k * size_of S) (sym (sum_by-append (λ x. cond (is_begin x) 1 0) es (Begin n t ∷ []) ∙ omega arith))
timed_kept S es memory (Got p m) meets h = idle S es (Got p m) refl refl h
timed_kept S es memory (Put p m) meets h = idle S es (Put p m) refl refl h
timed_kept S es memory (Hand p k r) meets h = idle S es (Hand p k r) refl refl h
timed_kept S es memory (Entered s) meets h = idle S es (Entered s) refl refl h
timed_kept S es memory (Judged s) meets h = idle S es (Judged s) refl refl h
timed_kept S es memory (Done n) meets h = idle S es (Done n) refl refl h
timed_kept S es memory (End n) meets h = idle S es (End n) refl refl h
timed_kept S es memory (Ask c v) meets h = idle S es (Ask c v) refl refl h
timed_kept S es memory (Gone p r) meets h = idle S es (Gone p r) refl refl h
timed_kept S es memory (Stray n) meets h = idle S es (Stray n) refl refl h
timed_kept S es memory (Did s c m) meets h = idle S es (Did s c m) refl refl h
timed_kept S es memory (Fault n) meets h = idle S es (Fault n) refl refl h

pub multiples : AnnouncedAreMultiples
unfolding size_of
multiples S past made law before q at size after is =
    let all : EachMeets S past.journal = lawful_meets S past made law in
    let here = all before (Put q (contents.NextStep at size)) after is in
    let front : EachMeets S ([] ++ before) = (λ b x a f. all b x (a ++ Put q (contents.NextStep at size) ∷ after) (is ∙ ap (λ es. es ++ Put q (contents.NextStep at size) ∷ after) f ∙ append_assoc b (x ∷ a) (Put q (contents.NextStep at size) ∷ after))) in
    let timed : Timed S before = along S (Timed S) (timed_kept S) [] before front (sym (zero-mul (size_of S))) in
    (here.1.0, here.1.1 ∙ ap (λ o. time_after (unwrap_or o 0) (last_begun before)) (sym here.1.0) ∙ timed ∙ ap (λ o. count_by is_begin before * unwrap_or o 0) here.1.0)
