-- What is put to a peer says where the participant stands: readings of blocks.
use Rattle.std.specs.Prelude.{◌≡◌, ◌⊎◌, ◌<◌, ◌≤◌, refl, ℕ, zero, suc, ◌+◌, ◌==◌, nat_lt, Bool, true, false, not, ◌&&◌, ◌||◌, List, [], ◌∷◌, ◌++◌, map, filter, length, Option, Some, None, if◌then◌else◌}
use Rattle.std.specs.List.{cons_option, list_any, range_with_len}
use Rattle.std.proofs.lemmas.Bool.{and_parts, eqb-true}
use Rattle.std.proofs.lemmas.Bool.Decides.{nat_tests}
use Rattle.std.proofs.lemmas.List.Folds.{list_any-append}
use Rattle.std.proofs.lemmas.List.Elements.{filter_map-append}
use Rattle.std.proofs.Common.{ap, sym, ◌∙◌, subst, append_assoc, append-nil, arith, inl, inr, ⊎_elim}
use Rattle.sk_msg.specs.declared.content.Content.{Content}
use Rattle.sk_msg.specs.declared.state.State.{State}
use Rattle.sk_msg.specs.States.{is_state}
use Rattle.sk_msg.specs.declared.entry.Entry.{Entry}
use Rattle.sk_msg.specs.declared.entry.Entry.TheVariants.{Put, System as Judged}
use Rattle.sk_law.specs.declared.setup.Setup.{Setup}
use Rattle.sk_law.specs.Past.{Past, add, put_each}
use Rattle.sk_law.specs.declared.memory.Begun.{Begun}
use Rattle.sk_law.specs.Readings.{begun_after, open_after, state_after, put, put_to, state_of, system_told, is_gone, is_gone_entry, has_run, is_running_entry, last_begun, open_step}
use Rattle.sk_law.specs.Links.{is_peer, reached, told, system}
use Rattle.sk_law.specs.Blocks.{judge_system}
use Rattle.sk_law_world.proofs.Built.{SameMoment, last_begun-puts, open_step-puts, state_of-puts, last_begun-add, open_step-add, state_of-add}

-- ## Whom it is put

abbrev pub unless : Bool → List Content → List Content
unless true ms = []
unless false ms = ms

abbrev puts_of : Content → List ℕ → List Entry
puts_of m xs = map (λ x. Put x m) xs

pub put-append : (xs ys : List Entry) (q : ℕ) → put (xs ++ ys) q ≡ put xs q ++ put ys q
put-append xs ys q = filter_map-append (put_to q) xs ys

put_skip : (m : Content) (c : Bool) (a q : ℕ) (xs : List ℕ) → (a == q) ≡ false → put (puts_of m (if c then a ∷ xs else xs)) q ≡ put (puts_of m xs) q
put_skip m true a q xs e = ap (λ b. cons_option (if b then Some m else None) (put (puts_of m xs) q)) e
put_skip m false a q xs e = refl

put_take : (m : Content) (c : Bool) (a q : ℕ) (xs : List ℕ) → (a == q) ≡ true → put (puts_of m xs) q ≡ [] → put (puts_of m (if c then a ∷ xs else xs)) q ≡ (if c then m ∷ [] else [])
put_take m true a q xs e none = ap (λ b. cons_option (if b then Some m else None) (put (puts_of m xs) q)) e ∙ ap (λ ms. m ∷ ms) none
put_take m false a q xs e none = none

apart : (a q : ℕ) → q < a → (a == q) ≡ false
apart a q lt = grind (arith, nat_tests)

-- none is put to one below them
above_one : (m : Content) (g : ℕ → Bool) (a n q : ℕ) → q < a → put (puts_of m (filter g (range_with_len a n))) q ≡ []
above_one m g a zero q lt = refl
above_one m g a (suc n) q lt = put_skip m (g a) a q (filter g (range_with_len (a + 1) n)) (apart a q lt) ∙ above_one m g (a + 1) n q (omega arith)

-- one is put to each of them
within_one : (m : Content) (g : ℕ → Bool) (a n q : ℕ) → a ≤ q → q < a + n → put (puts_of m (filter g (range_with_len a n))) q ≡ (if g q then m ∷ [] else [])
within_one m g a zero q le lt = absurd (omega arith)
within_one m g a (suc n) q le lt =
    on (a == q) refl (λ same. put_take m (g a) a q (filter g (range_with_len (a + 1) n)) (grind (arith, nat_tests)) (above_one m g (a + 1) n q (omega arith)) ∙ ap (λ x. if g x then m ∷ [] else []) same)
    (λ more. within_one m g (a + 1) n q more (omega arith))
  where
    on : (b : Bool) → (a == q) ≡ b →
        (a ≡ q → put (puts_of m (if g a then a ∷ filter g (range_with_len (a + 1) n) else filter g (range_with_len (a + 1) n))) q ≡ (if g q then m ∷ [] else [])) →
        (a + 1 ≤ q → put (puts_of m (filter g (range_with_len (a + 1) n))) q ≡ (if g q then m ∷ [] else [])) →
        put (puts_of m (if g a then a ∷ filter g (range_with_len (a + 1) n) else filter g (range_with_len (a + 1) n))) q ≡ (if g q then m ∷ [] else [])
    on true e here there = here (eqb-true a q e)
    on false e here there = put_skip m (g a) a q (filter g (range_with_len (a + 1) n)) e ∙ there (grind (arith, nat_tests))

if_gone : (m : Content) (p g : Bool) → p ≡ true → (if p && not g then m ∷ [] else []) ≡ unless g (m ∷ [])
if_gone m true true e = refl
if_gone m true false e = refl
if_gone m false g e = absurd cc

module _ (S : Setup) (q : ℕ) (peer : is_peer S q ≡ true) where
  in_names : q < length S.names
  in_names = let b = (and_parts (nat_lt q (length S.names)) (not (q == S.number)) peer).0 in let c : nat_lt q (length S.names) ≡ true = b in grind (arith, nat_tests)

  pub put_reached : (past : Past) (m : Content) → put (map (λ x. Put x m) (reached S past)) q ≡ unless (is_gone past.journal q) (m ∷ [])
  put_reached past m =
      within_one m (λ p. not (p == S.number) && not (is_gone past.journal p)) 0 (length S.names) q (omega arith) (let lt = in_names in omega arith)
      ∙ if_gone m (not (q == S.number)) (is_gone past.journal q) (and_parts (nat_lt q (length S.names)) (not (q == S.number)) peer).1

  pub put_told : (past : Past) (m : Content) → put (map (λ x. Put x m) (told S past)) q ≡ unless (is_gone past.journal q) (m ∷ [])
  put_told past m =
      within_one m (λ p. not (p == S.number) && not (is_gone past.journal p)) 0 (length S.names + length past.memory.tools) q (omega arith) (let lt = in_names in omega arith)
      ∙ if_gone m (not (q == S.number)) (is_gone past.journal q) (and_parts (nat_lt q (length S.names)) (not (q == S.number)) peer).1

-- ## Moments

pub moment : (past : Past) → SameMoment past past
moment past = record { begun = refl; opened = refl; state = refl; run = refl }

pub then_moment : {a b c : Past} → SameMoment a b → SameMoment b c → SameMoment a c
then_moment h i = record { begun = i.begun ∙ h.begun; opened = i.opened ∙ h.opened; state = i.state ∙ h.state; run = i.run ∙ h.run }

pub or_no : (b : Bool) → (b || false) ≡ b
or_no true = refl
or_no false = refl

no_run : (numbers : List ℕ) (m : Content) → list_any is_running_entry (map (λ x. Put x m) numbers) ≡ false
no_run [] m = refl
no_run (x ∷ xs) m = no_run xs m

pub moment_puts : (numbers : List ℕ) (m : Content) (past : Past) → SameMoment past (put_each numbers m past)
moment_puts numbers m past = record {
  begun = last_begun-puts past.journal numbers m;
  opened = open_step-puts past.journal numbers m;
  state = state_of-puts past.journal numbers m;
  run = list_any-append is_running_entry past.journal (map (λ x. Put x m) numbers) ∙ ap (λ b. has_run past.journal || b) (no_run numbers m) ∙ or_no (has_run past.journal);
}

-- an entry that no reading of a moment looks at
pub record IsPlain (e : Entry) : Type 0 where
  pub begun : (last : Option Begun) → begun_after last e ≡ last
  pub opened : (last : Option Begun) → open_after last e ≡ last
  pub state : (s : State) → state_after s e ≡ s
  pub run : is_running_entry e ≡ false

pub moment_add : (past : Past) (e : Entry) → IsPlain e → SameMoment past (add e past)
moment_add past e h = record {
  begun = last_begun-add past.journal e ∙ h.begun (last_begun past.journal);
  opened = open_step-add past.journal e ∙ h.opened (open_step past.journal);
  state = state_of-add past.journal e ∙ h.state (state_of past.journal);
  run = list_any-append is_running_entry past.journal (e ∷ []) ∙ ap (λ b. has_run past.journal || (b || false)) h.run ∙ or_no (has_run past.journal);
}

pub moment_system : (S : Setup) (past : Past) → SameMoment past (judge_system S past)
unfolding judge_system
moment_system S past = on (is_state (system S past) (system_told past.journal))
  where
    on : (c : Bool) → SameMoment past (if c then past else add (Judged (system S past)) past)
    on true = moment past
    on false = moment_add past (Judged (system S past)) (record { begun = λ l. refl; opened = λ l. refl; state = λ s. refl; run = refl })

-- ## What is put and who is gone

pub gone-add : (es : List Entry) (q : ℕ) (e : Entry) → is_gone_entry q e ≡ false → is_gone (es ++ e ∷ []) q ≡ is_gone es q
gone-add es q e h = list_any-append (is_gone_entry q) es (e ∷ []) ∙ ap (λ b. is_gone es q || (b || false)) h ∙ or_no (is_gone es q)

no_gone : (q : ℕ) (numbers : List ℕ) (m : Content) → list_any (is_gone_entry q) (map (λ x. Put x m) numbers) ≡ false
no_gone q [] m = refl
no_gone q (x ∷ xs) m = no_gone q xs m

pub gone-puts : (es : List Entry) (q : ℕ) (numbers : List ℕ) (m : Content) → is_gone (es ++ map (λ x. Put x m) numbers) q ≡ is_gone es q
gone-puts es q numbers m = list_any-append (is_gone_entry q) es (map (λ x. Put x m) numbers) ∙ ap (λ b. is_gone es q || b) (no_gone q numbers m) ∙ or_no (is_gone es q)

pub put-add : (es : List Entry) (q : ℕ) (e : Entry) → put_to q e ≡ None → put (es ++ e ∷ []) q ≡ put es q
put-add es q e h = put-append es (e ∷ []) q ∙ ap (λ o. put es q ++ cons_option o []) h ∙ append-nil (put es q)

-- a block that puts these to q where it isn't gone, and changes nothing of who is gone
pub record PutsTo (q : ℕ) (past now : Past) (ms : List Content) : Type 0 where
  pub new : List Entry
  pub is : now.journal ≡ past.journal ++ new
  pub puts : put new q ≡ unless (is_gone past.journal q) ms
  pub gone : is_gone now.journal q ≡ is_gone past.journal q

pub puts_all : {q : ℕ} {past now : Past} {ms : List Content} → PutsTo q past now ms → put now.journal q ≡ put past.journal q ++ unless (is_gone past.journal q) ms
puts_all {q} {past} {now} {ms} p = ap (λ es. put es q) p.is ∙ put-append past.journal p.new q ∙ ap (λ x. put past.journal q ++ x) p.puts

unless_none : (b : Bool) → unless b [] ≡ []
unless_none true = refl
unless_none false = refl

unless_both : (b : Bool) (xs ys : List Content) → unless b xs ++ unless b ys ≡ unless b (xs ++ ys)
unless_both true xs ys = refl
unless_both false xs ys = refl

pub puts_none : {q : ℕ} (past now : Past) (new : List Entry) → now.journal ≡ past.journal ++ new → put new q ≡ [] → is_gone now.journal q ≡ is_gone past.journal q → PutsTo q past now []
puts_none {q} past now new is p g = record { new = new; is = is; puts = p ∙ sym (unless_none (is_gone past.journal q)); gone = g }

pub puts_both : {q : ℕ} {a b c : Past} {xs ys : List Content} → PutsTo q a b xs → PutsTo q b c ys → PutsTo q a c (xs ++ ys)
puts_both {q} {a} {b} {c} {xs} {ys} h i = record {
  new = h.new ++ i.new;
  is = i.is ∙ ap (λ es. es ++ i.new) h.is ∙ append_assoc a.journal h.new i.new;
  puts = put-append h.new i.new q ∙ ap (λ ms. ms ++ put i.new q) h.puts ∙ ap (λ ms. unless (is_gone a.journal q) xs ++ ms) (i.puts ∙ ap (λ g. unless g ys) h.gone) ∙ unless_both (is_gone a.journal q) xs ys;
  gone = i.gone ∙ h.gone;
}

pub puts_add : (q : ℕ) (past : Past) (e : Entry) → put_to q e ≡ None → is_gone_entry q e ≡ false → PutsTo q past (add e past) []
puts_add q past e h g = puts_none past (add e past) (e ∷ []) refl (ap (λ o. cons_option o []) h) (gone-add past.journal q e g)

pub puts_system : (S : Setup) (q : ℕ) (past : Past) → PutsTo q past (judge_system S past) []
unfolding judge_system
puts_system S q past = on (is_state (system S past) (system_told past.journal))
  where
    on : (c : Bool) → PutsTo q past (if c then past else add (Judged (system S past)) past) []
    on true = puts_none past past [] (sym (append-nil past.journal)) refl refl
    on false = puts_add q past (Judged (system S past)) refl refl

pub puts_each : (q : ℕ) (numbers : List ℕ) (m : Content) (past : Past) → put (map (λ x. Put x m) numbers) q ≡ unless (is_gone past.journal q) (m ∷ []) → PutsTo q past (put_each numbers m past) (m ∷ [])
puts_each q numbers m past h = record { new = map (λ x. Put x m) numbers; is = refl; puts = h; gone = gone-puts past.journal q numbers m }

-- ## Nothing behind a Gone

fronts : (xs ys es rest : List Entry) → xs ++ ys ≡ es ++ rest → ((x : List Entry) × (es ≡ xs ++ x) × (ys ≡ x ++ rest)) ⊎ ((x : List Entry) × (xs ≡ es ++ x) × (rest ≡ x ++ ys))
fronts [] ys es rest e = inl (es, refl, e)
fronts (x ∷ xs) ys [] rest e = inr (x ∷ xs, refl, sym e)
fronts (x ∷ xs) ys (z ∷ es) rest e =
    let h : x ≡ z = cc in let t : xs ++ ys ≡ es ++ rest = cc in
    let Goal : Type 0 = ((w : List Entry) × (z ∷ es ≡ x ∷ (xs ++ w)) × (ys ≡ w ++ rest)) ⊎ ((w : List Entry) × (x ∷ xs ≡ z ∷ (es ++ w)) × (rest ≡ w ++ ys)) in
    ⊎_elim
    (λ (a : (w : List Entry) × (es ≡ xs ++ w) × (ys ≡ w ++ rest)). let g : Goal = inl (a.0, ap (λ w. w ∷ es) (sym h) ∙ ap (λ w. x ∷ w) a.1, a.2) in g)
    (λ (a : (w : List Entry) × (xs ≡ es ++ w) × (rest ≡ w ++ ys)). let g : Goal = inr (a.0, ap (λ w. w ∷ xs) h ∙ ap (λ w. z ∷ w) a.1, a.2) in g)
    (fronts xs ys es rest t)

-- nothing is put to q behind its Gone
abbrev pub IsSilent : ℕ → List Entry → Type 0
IsSilent q es = (front rest : List Entry) → es ≡ front ++ rest → is_gone front q ≡ true → put rest q ≡ []

gone_longer : (es rest : List Entry) (q : ℕ) → is_gone es q ≡ true → is_gone (es ++ rest) q ≡ true
gone_longer es rest q h = list_any-append (is_gone_entry q) es rest ∙ ap (λ b. b || is_gone rest q) h

none_parts : (xs ys : List Content) → xs ++ ys ≡ [] → ys ≡ []
none_parts [] ys e = e
none_parts (x ∷ xs) ys e = absurd cc

pub silent_on : (q : ℕ) (xs ys : List Entry) → (is_gone (xs ++ ys) q ≡ true → put ys q ≡ []) → IsSilent q xs → IsSilent q (xs ++ ys)
silent_on q xs ys quiet h front rest e gone = ⊎_elim
    (λ (a : (x : List Entry) × (front ≡ xs ++ x) × (ys ≡ x ++ rest)).
    let all : is_gone (xs ++ ys) q ≡ true = ap (λ es. is_gone es q) e ∙ gone_longer front rest q gone in
    let r : put rest q ≡ [] = none_parts (put a.0 q) (put rest q) (sym (put-append a.0 rest q) ∙ ap (λ es. put es q) (sym a.2) ∙ quiet all) in r)
    (λ (a : (x : List Entry) × (xs ≡ front ++ x) × (rest ≡ x ++ ys)).
    let all : is_gone (xs ++ ys) q ≡ true = ap (λ es. is_gone es q) e ∙ gone_longer front rest q gone in
    let r : put rest q ≡ [] = ap (λ es. put es q) a.2 ∙ put-append a.0 ys q ∙ ap (λ ms. ms ++ put ys q) (h front a.0 a.1 gone) ∙ quiet all in r)
    (fronts xs ys front rest e)

pub silent_puts : {q : ℕ} {past now : Past} {ms : List Content} → PutsTo q past now ms → IsSilent q past.journal → IsSilent q now.journal
silent_puts {q} {past} {now} {ms} p h =
    subst (IsSilent q) (sym p.is)
    (silent_on q past.journal p.new (λ g. p.puts ∙ ap (λ b. unless b ms) (sym p.gone ∙ ap (λ es. is_gone es q) p.is ∙ g)) h)
