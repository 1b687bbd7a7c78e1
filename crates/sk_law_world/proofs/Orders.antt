-- What is put to a peer is in order: all that happens.
use Rattle.std.specs.Prelude.{◌≡◌, ◌⊎◌, ◌<◌, ◌≤◌, refl, ℕ, zero, suc, ◌+◌, ◌^◌, ◌==◌, IsTrue, IfSome, nat_lt, nat_le, Bool, true, false, not, ◌&&◌, ◌||◌, List, [], ◌∷◌, ◌++◌, map, filter, flat_map, length, Option, Some, None, is_some, unwrap_or, slice_get, if◌then◌else◌}
use Rattle.std.specs.List.{cons_option, list_any, range_with_len, AllByRecursion}
use Rattle.std.specs.Str.{bytes_eq}
use Rattle.std.proofs.lemmas.Bool.{and_parts, and_from, eqb-true}
use Rattle.std.proofs.lemmas.Bool.Decides.{nat_tests}
use Rattle.std.proofs.lemmas.List.{length-map, map-append}
use Rattle.std.proofs.lemmas.List.Folds.{list_any-append}
use Rattle.std.proofs.Common.{ap, sym, ◌∙◌, subst, append_assoc, append-nil, arith, inl, inr}
use Rattle.sk_msg.specs.declared.command.Command.TheVariants.{Abort}
use Rattle.sk_msg.specs.declared.content.Content.{Content}
use Rattle.sk_msg.specs.declared.content.Content.TheVariants as contents
use Rattle.sk_msg.specs.declared.service.Service.{Service}
use Rattle.sk_msg.specs.declared.service.ServiceKind.{ServiceKind}
use Rattle.sk_msg.specs.declared.service.ServiceKind.TheVariants as kinds
use Rattle.sk_msg.specs.declared.state.State.{State}
use Rattle.sk_msg.specs.declared.state.State.TheVariants.{ServicesCreated, Error, Shutdown, Aborting}
use Rattle.sk_msg.specs.States.{is_state}
use Rattle.sk_msg.specs.Edges.{has_edge}
use Rattle.sk_law_world.proofs.StateLaws.{each_state}
use Rattle.sk_msg.specs.Rules.{is_step_size}
use Rattle.sk_msg.specs.declared.entry.Entry.{Entry}
use Rattle.sk_msg.specs.declared.entry.Entry.TheVariants.{Got, Put, Done, End, Gone, Stray}
use Rattle.sk_law.specs.declared.made.Made.{Made}
use Rattle.sk_law.specs.declared.setup.Setup.{Setup}
use Rattle.sk_law.specs.Past.{Past, add}
use Rattle.sk_law.specs.Services.{new_state_of, new_states}
use Rattle.sk_law.specs.declared.memory.Begun.{Begun}
use Rattle.sk_law.specs.Readings.{is_running_entry, got, put, put_to, state_of, is_gone, is_gone_entry, has_run, last_begun, open_step, payload}
use Rattle.sk_law.specs.Order.{is_above, may_say, said_of}
use Rattle.sk_law.specs.Links.{own_name, is_peer, peers, comes_in_order}
use Rattle.sk_law.specs.Receivers.{receivers, note}
use Rattle.sk_law.specs.Rows.{Ready, Step}
use Rattle.sk_law.specs.Blocks.{announce, enter_only, enter_until, enter_if, fault, callback, may_end, end_open, end_step, end_blocking, take_step, completes_ready, completes_step, complete, lose, heed, get, hello, announced_service, introduction, making, tool_number, with_tool, greet, add_tool, judge_limits, with_completed}
use Rattle.sk_law.specs.Lawful.{Lawful, Happens, note_asked, starts, goes_on, gets, loses, completes, asks, adds, moves, readies, begins, counts, gives_up}
use Rattle.sk_law.specs.Setups.{IsSetup}
use Rattle.sk_law_world.specs.Heard.{PutsAreInOrder}
use Rattle.sk_law_world.proofs.RowLaws.{row-edge, row-step, row-alive}
use Rattle.sk_law_world.proofs.Built as built
use Rattle.sk_law_world.proofs.Built.{Built, asked_error, asked_aborting, state_still, state_of-add, last_begun-add, open_step-add, has_run-add, unbegun, opened_is_last}
use Rattle.sk_law_world.proofs.BlocksBuilt.{IsAlive, MayCall, IsMessage, are_messages, called_alive, alive_still, built_callback}
use Rattle.sk_law_world.proofs.Meetings.{lawful_built, built_happens}
use Rattle.sk_law.specs.declared.said.Said.{Said}
use Rattle.sk_law_world.proofs.Saids.{said_add, IsOrderly, Runs, orderly_add, orderly_run}
use Rattle.sk_law_world.proofs.Tellings.{moment, unless, IsSilent, silent_on, puts_all, puts_both, puts_add, put-append, put-add, moment_add}
use Rattle.sk_law_world.proofs.Spokens.{kinds_enter_only, puts_enter_only, stands_entered, announcement, announced_at, says, stands, says_eq, stands_same, told_service, kind_at, Spoken, spoken_by, spoken_plain, spoken_memory, spoken_system, puts_announce, moment_announce, kinds_announce}
use Rattle.sk_law_world.proofs.Talks.{open_announced, open_run, kinds_noted, or_left, spoken_enter_until, spoken_enter_if, spoken_ask, spoken_count_down, spoken_fault, spoken_callback, spoken_callbacks}

end_alive : (s : State) → (not (may_end s) || not (is_state Shutdown s)) ≡ true
unfolding is_state
end_alive s = each_state (λ a. not (may_end a) || not (is_state Shutdown a)) refl s

may_end_alive : (s : State) → may_end s ≡ true → is_state Shutdown s ≡ false
may_end_alive s h = by (may_end s) (is_state Shutdown s) (end_alive s) h
  where
    by : (a b : Bool) → (not a || not b) ≡ true → a ≡ true → b ≡ false
    by true true e f = absurd cc
    by true false e f = refl
    by false b e f = absurd cc

unannounced : (run : Bool) (o b : Option Begun) → announcement None run o b ≡ None
unannounced true o b = refl
unannounced false o b = refl

or_parts : (a b : Bool) → (a || b) ≡ false → (a ≡ false) × (b ≡ false)
or_parts true b h = absurd cc
or_parts false b h = (refl, h)

module _ (S : Setup) (q : ℕ) (peer : is_peer S q ≡ true) (sized : (size : ℕ) → S.step ≡ Some size → 0 < size) where
  -- ## Steps

  spoken_end_some : (past : Past) (step : Begun) → open_step past.journal ≡ Some step → IsAlive past → Built S past → Spoken S q past →
      Spoken S q (announce S (step.time + unwrap_or S.step 0) (add (End step.number) past))
  spoken_end_some past step open_is alive b h = on S.step refl
    where
      mid : Past
      mid = add (End step.number) past

      at : ℕ
      at = step.time + unwrap_or S.step 0

      state : state_of mid.journal ≡ state_of past.journal
      state = state_of-add past.journal (End step.number)

      on : (o : Option ℕ) → S.step ≡ o → Spoken S q (announce S at mid)
      on None e =
          subst (λ o. Spoken S q (announce (record S { step = o }) at mid)) (sym e)
          (spoken_by (puts_add q past (End step.number) refl refl)
          (λ g. sym (says_eq S state
          (ap (λ o. announcement o (has_run mid.journal) (open_step mid.journal) (last_begun mid.journal)) e ∙ unannounced (has_run mid.journal) (open_step mid.journal) (last_begun mid.journal)
          ∙ sym (ap (λ o. announcement o (has_run past.journal) (open_step past.journal) (last_begun past.journal)) e ∙ unannounced (has_run past.journal) (open_step past.journal) (last_begun past.journal)))
          (ap (is_state Shutdown) state))) refl h)
      on (Some size) e =
          let timed : unwrap_or S.step 0 ≡ size = ap (λ o. unwrap_or o 0) e in
          let some : 0 < size = sized size e in
          let later : nat_lt step.time at ≡ true = (let lt : step.time < step.time + unwrap_or S.step 0 = omega arith in grind (arith, nat_tests)) in
          let above : is_above (announced_at S past) at ≡ true = ap (λ o. is_above o at) (open_announced S past step open_is b) ∙ later in
          let last : last_begun mid.journal ≡ Some step = last_begun-add past.journal (End step.number) ∙ opened_is_last past.journal None None (λ b f. f) step open_is in
          let announced : announced_at S mid ≡ Some at =
          ap (λ o. announcement o (has_run mid.journal) (open_step mid.journal) (last_begun mid.journal)) e
          ∙ ap (λ r. announcement (Some size) r (open_step mid.journal) (last_begun mid.journal)) (has_run-add past.journal (End step.number) ∙ or_left (has_run past.journal) false (open_run past step open_is b))
          ∙ ap (λ o. announcement (Some size) true o (last_begun mid.journal)) (open_step-add past.journal (End step.number))
          ∙ ap (announcement (Some size) true None) last ∙ ap (λ k. Some (step.time + k)) (sym timed) in
          spoken_by {S = S} {q = q} (puts_both (puts_add q past (End step.number) refl refl) (puts_announce S q peer at size mid e))
          (λ g. (
            and_from (not (is_state Shutdown (state_of past.journal))) (is_some S.step && is_above (announced_at S past) at) (ap not alive) (and_from (is_some S.step) (is_above (announced_at S past) at) (ap is_some e) above),
            sym (stands_same S (moment_announce S q peer at mid) ∙ says_eq S state announced (ap (is_state Shutdown) state)),
          ))
          (kinds_announce S q peer at mid) h

  spoken_end_step : (past : Past) → may_end (state_of past.journal) ≡ true → Built S past → Spoken S q past → Spoken S q (end_step S past)
  unfolding end_step
  spoken_end_step past may b h = on (open_step past.journal) refl
    where
      on : (o : Option Begun) → open_step past.journal ≡ o → Spoken S q (end_open S o past)
      on None e = h
      on (Some step) e = spoken_end_some past step e (may_end_alive (state_of past.journal) may) b h

  spoken_end_blocking : (past : Past) → Built S past → Spoken S q past → Spoken S q (end_blocking S past)
  spoken_end_blocking past b h = on (not S.is_async && may_end (state_of past.journal)) refl
    where
      on : (c : Bool) → (not S.is_async && may_end (state_of past.journal)) ≡ c → Spoken S q (if c then end_step S past else past)
      on true e = spoken_end_step past (and_parts (not S.is_async) (may_end (state_of past.journal)) e).1 b h
      on false e = h

  spoken_take_step : (made : Made) (past : Past) → IsAlive past → MayCall S past made.call → Built S past → Spoken S q past → Spoken S q (take_step S made past)
  unfolding take_step
  spoken_take_step made past alive may b h = spoken_end_blocking (callback S past made) (built_callback past made alive may b) (spoken_callback S q peer sized past made alive may b h)

  may_by : (past : Past) (n : ℕ) → completes_step S n past ≡ true → may_end (state_of past.journal) ≡ true
  unfolding completes_step
  may_by past n e = (and_parts _ (may_end (state_of past.journal)) (and_parts S.is_async _ e).1).1

  spoken_complete : (n : ℕ) (past : Past) → Built S past → Spoken S q past → Spoken S q (complete S n past)
  unfolding complete
  spoken_complete n past b h = on (completes_ready n past) (completes_step S n past) refl
    where
      hd : Spoken S q (add (Done n) past)
      hd = spoken_plain past (Done n) refl refl (record { begun = λ l. refl; opened = λ l. refl; state = λ s. refl; run = refl }) h

      on : (r s : Bool) → completes_step S n past ≡ s → Spoken S q (if r then add (Done n) past else if s then end_step S (add (Done n) past) else add (Stray n) past)
      on true s e = hd
      on false true e = spoken_end_step (add (Done n) past) (ap may_end (state_still past.journal (Done n) (λ s. refl)) ∙ may_by past n e) (built.adds past (Done n) b (inr e)) hd
      on false false e = spoken_plain past (Stray n) refl refl (record { begun = λ l. refl; opened = λ l. refl; state = λ s. refl; run = refl }) h

  -- ## Links

  spoken_gone : (p reason : ℕ) (past : Past) → Spoken S q past → Spoken S q (add (Gone p reason) past)
  spoken_gone p reason past h = record {
    orderly = subst (IsOrderly (own_name S)) (sym (put-add past.journal q (Gone p reason) refl)) h.orderly;
    now = λ g. ap said_of (put-add past.journal q (Gone p reason) refl) ∙ h.now (before g) ∙ sym (stands_same S (moment_add past (Gone p reason) (record { begun = λ l. refl; opened = λ l. refl; state = λ s. refl; run = refl })));
    silent = silent_on q past.journal (Gone p reason ∷ []) (λ g. refl) h.silent;
    kinds = h.kinds;
  }
    where
      before : is_gone (past.journal ++ Gone p reason ∷ []) q ≡ false → is_gone past.journal q ≡ false
      before g = (or_parts (is_gone past.journal q) ((p == q) || false) (sym (list_any-append (is_gone_entry q) past.journal (Gone p reason ∷ [])) ∙ g)).0

  spoken_lose : (p reason : ℕ) (past : Past) → Built S past → Spoken S q past → Spoken S q (lose S p reason past)
  unfolding lose
  spoken_lose p reason past b h = on (is_peer S p)
    where
      hg : Spoken S q (add (Gone p reason) past)
      hg = spoken_gone p reason past h

      on : (c : Bool) → Spoken S q (if c then enter_if S Error (add (Gone p reason) past) else add (Gone p reason) past)
      on true = spoken_enter_if S q peer sized Error (add (Gone p reason) past) asked_error (built.adds past (Gone p reason) b tt) hg
      on false = hg

  spoken_heed : (p : ℕ) (m : Content) (made : List Made) (past : Past) → AllByRecursion (λ one. IsMessage one.call) made → (made ≡ []) ⊎ IsAlive past → Built S past → Spoken S q past → Spoken S q (heed S p m made past)
  unfolding heed
  spoken_heed p (contents.Status state until) made past all a b h = spoken_system past h
  spoken_heed p (contents.Workflow required) made past all a b h = spoken_system past h
  spoken_heed p contents.Abort made past all a b h = spoken_enter_if S q peer sized Aborting past asked_aborting b h
  spoken_heed p (contents.LinResponse head' response) made past all a b h =
      spoken_memory past (note S p head'.service response past).memory (kinds_noted _ p head'.service response S.services past.memory.services (sym (sym (length-map past.memory.services kind_at) ∙ ap length h.kinds ∙ length-map S.services (λ s. s.kind)))) h
  spoken_heed p (contents.Hello name role address) made past all a b h = spoken_callbacks S q peer sized made past all a b h
  spoken_heed p contents.Leave made past all a b h = spoken_callbacks S q peer sized made past all a b h
  spoken_heed p (contents.NextStep at size) made past all a b h = spoken_callbacks S q peer sized made past all a b h
  spoken_heed p (contents.ServiceAdd service) made past all a b h = spoken_callbacks S q peer sized made past all a b h
  spoken_heed p contents.ServicesEnd made past all a b h = spoken_callbacks S q peer sized made past all a b h
  spoken_heed p (contents.Refuse reason) made past all a b h = spoken_callbacks S q peer sized made past all a b h
  spoken_heed p (contents.Can head' frame) made past all a b h = spoken_callbacks S q peer sized made past all a b h
  spoken_heed p (contents.Eth head' payload) made past all a b h = spoken_callbacks S q peer sized made past all a b h
  spoken_heed p (contents.Lin head' frame) made past all a b h = spoken_callbacks S q peer sized made past all a b h
  spoken_heed p (contents.Publish head' payload) made past all a b h = spoken_callbacks S q peer sized made past all a b h
  spoken_heed p (contents.Call head' call payload) made past all a b h = spoken_callbacks S q peer sized made past all a b h
  spoken_heed p (contents.Reply head' client call payload) made past all a b h = spoken_callbacks S q peer sized made past all a b h

  spoken_get : (p : ℕ) (m : Content) (made : List Made) (past : Past) → AllByRecursion (λ one. IsMessage one.call) made → (made ≡ []) ⊎ IsAlive past → Built S (add (Got p m) past) → Spoken S q past → Spoken S q (get S p m made past)
  unfolding get
  spoken_get p m made past all a b h = on (comes_in_order S past p m)
    where
      hg : Spoken S q (add (Got p m) past)
      hg = spoken_plain past (Got p m) refl refl (record { begun = λ l. refl; opened = λ l. refl; state = λ s. refl; run = refl }) h

      got_alive : (made ≡ []) ⊎ IsAlive past → (made ≡ []) ⊎ IsAlive (add (Got p m) past)
      got_alive (inl none) = inl none
      got_alive (inr alive) = inr (alive_still past (Got p m) (λ s. refl) alive)

      on : (c : Bool) → Spoken S q (if c then heed S p m made (add (Got p m) past) else lose S p 8 (add (Got p m) past))
      on true = spoken_heed p m made (add (Got p m) past) all (got_alive a) b hg
      on false = spoken_lose p 8 (add (Got p m) past) b hg

  -- ## Tools and limits

  spoken_add_tool : (name : List ℕ) (past : Past) → Spoken S q past → Spoken S q (add_tool S name past)
  unfolding add_tool
  spoken_add_tool name past h = on (is_state Shutdown (state_of past.journal))
    where
      t : ℕ
      t = tool_number S past

      h' : Spoken S q (with_tool name past)
      h' = spoken_memory past (with_tool name past).memory refl h

      apart : (t == q) ≡ false
      apart = let lt : nat_lt q (length S.names) ≡ true = (and_parts (nat_lt q (length S.names)) (not (q == S.number)) peer).0 in grind (arith, nat_tests)

      other : (m : Content) → put_to q (Put t m) ≡ None
      other m = ap (λ b. if b then Some m else None) apart

      put : (m : Content) (now : Past) → Spoken S q now → Spoken S q (add (Put t m) now)
      put m now k = spoken_plain now (Put t m) (other m) refl (record { begun = λ l. refl; opened = λ l. refl; state = λ s. refl; run = refl }) k

      on : (c : Bool) → Spoken S q (if c then with_tool name past else greet S t (with_tool name past))
      on true = h'
      on false = put _ _ (put _ _ (put _ _ h'))

  spoken_judge_limits : (past : Past) → Built S past → Spoken S q past → Spoken S q (judge_limits S past)
  unfolding judge_limits
  spoken_judge_limits past b h = on (not (has_edge (state_of past.journal) Error)) (nat_le 500000 (length past.journal)) (nat_le 33554432 (payload past.journal))
    where
      on : (over many long : Bool) → Spoken S q (if over then past else if many then fault S 3 past else if long then fault S 4 past else past)
      on true many long = h
      on false true long = spoken_fault S q peer sized 3 past b h
      on false false true = spoken_fault S q peer sized 4 past b h
      on false false false = h

  -- ## All that happens

  spoken_happens : (past : Past) (made : List Made) (now : Past) → Happens S past made now → Built S past → Spoken S q past → Spoken S q now
  spoken_happens past made now (gets p m made' linked are filled) b h =
      spoken_get p m made' past (are_messages p (length (got past.journal p) + 1) m made' (receivers S past p m) are) (called_alive S past p (length (got past.journal p) + 1) m made' are) (built.adds past (Got p m) b linked) h
  spoken_happens past made now (loses p reason linked loss) b h = spoken_lose p reason past b h
  spoken_happens past made now (completes number) b h = spoken_complete number (with_completed number past) (built.remembers past (with_completed number past).memory (built.all_of past.memory.tools) b) (spoken_memory past (with_completed number past).memory refl h)
  spoken_happens past made now (asks command) b h = spoken_ask S q peer sized command (note_asked past) (built.remembers past (note_asked past).memory (built.all_of past.memory.tools) b) (spoken_memory past (note_asked past).memory refl h)
  spoken_happens past made now (adds name few) b h = spoken_add_tool name past h
  spoken_happens past made now (moves to e) b h = spoken_enter_until S q peer sized to 0 past (record { edge = row-edge S past to e; by_row = λ row. e; cause = inr (inl e) }) b h
  spoken_happens past made now (readies one e call filled) b h = spoken_callback S q peer sized past one (row-alive S past Ready e) (subst (MayCall S past) (sym call) tt) b h
  spoken_happens past made now (begins one e call filled) b h =
      spoken_take_step one past (row-alive S past Step e) (subst (MayCall S past) (sym call) (record { running = (row-step S past e).0; may = (row-step S past e).1; number = refl; time = refl })) b h
  spoken_happens past made now (counts count e) b h = spoken_count_down S q peer sized count past b h
  spoken_happens past made now (gives_up e) b h = spoken_ask S q peer sized Abort past b h

-- ## The start

same_bytes : (xs : List ℕ) → bytes_eq xs xs ≡ true
same_bytes [] = refl
same_bytes (x ∷ xs) = and_from (x == x) (bytes_eq xs xs) (let r : (x == x) ≡ true = grind (arith, nat_tests) in r) (same_bytes xs)

kinds_new : (services : List Service) → map kind_at (new_states services) ≡ map (λ s. s.kind) services
kinds_new [] = refl
kinds_new (s ∷ services) = ap (λ k. k ∷ map kind_at (new_states services)) (one s.kind) ∙ ap (λ ks. s.kind ∷ ks) (kinds_new services)
  where
    one : (k : ServiceKind) → kind_at (new_state_of s k) ≡ k
    one kinds.Can = refl
    one kinds.Ethernet = refl
    one kinds.Lin = refl
    one kinds.Publisher = refl
    one kinds.Subscriber = refl
    one kinds.Server = refl
    one kinds.Client = refl

to_self : (q : ℕ) (ms : List Content) → put (map (λ m. Put q m) ms) q ≡ ms
to_self q [] = refl
to_self q (m ∷ ms) = ap (λ b. cons_option (if b then Some m else None) (put (map (λ m. Put q m) ms) q)) (let r : (q == q) ≡ true = grind (arith, nat_tests) in r) ∙ ap (λ z. m ∷ z) (to_self q ms)

to_other : (p q : ℕ) (ms : List Content) → (p == q) ≡ false → put (map (λ m. Put p m) ms) q ≡ []
to_other p q [] e = refl
to_other p q (m ∷ ms) e = ap (λ b. cons_option (if b then Some m else None) (put (map (λ m. Put p m) ms) q)) e ∙ to_other p q ms e

abbrev intros : List Content → List ℕ → List Entry
intros ms ps = flat_map (λ p. map (λ m. Put p m) ms) ps

skip : (ms : List Content) (c : Bool) (a q : ℕ) (ps : List ℕ) → (a == q) ≡ false → put (intros ms (if c then a ∷ ps else ps)) q ≡ put (intros ms ps) q
skip ms true a q ps e = put-append (map (λ m. Put a m) ms) (intros ms ps) q ∙ ap (λ x. x ++ put (intros ms ps) q) (to_other a q ms e)
skip ms false a q ps e = refl

take : (ms : List Content) (a q : ℕ) (ps : List ℕ) → a ≡ q → put (intros ms ps) q ≡ [] → put (intros ms (a ∷ ps)) q ≡ ms
take ms a q ps e none = put-append (map (λ m. Put a m) ms) (intros ms ps) q ∙ ap (λ x. x ++ put (intros ms ps) q) (ap (λ x. put (map (λ m. Put x m) ms) q) e ∙ to_self q ms) ∙ ap (λ x. ms ++ x) none ∙ append-nil ms

intro_above : (ms : List Content) (h : ℕ → Bool) (a n q : ℕ) → q < a → put (intros ms (filter h (range_with_len a n))) q ≡ []
intro_above ms h a zero q lt = refl
intro_above ms h a (suc n) q lt = skip ms (h a) a q (filter h (range_with_len (a + 1) n)) (grind (arith, nat_tests)) ∙ intro_above ms h (a + 1) n q (omega arith)

intro_within : (ms : List Content) (h : ℕ → Bool) (a n q : ℕ) → a ≤ q → q < a + n → h q ≡ true → put (intros ms (filter h (range_with_len a n))) q ≡ ms
intro_within ms h a zero q le lt yes' = absurd (omega arith)
intro_within ms h a (suc n) q le lt yes' =
    on (a == q) refl
    (λ same. ap (λ c. put (intros ms (if c then a ∷ filter h (range_with_len (a + 1) n) else filter h (range_with_len (a + 1) n))) q) (ap h same ∙ yes')
    ∙ take ms a q (filter h (range_with_len (a + 1) n)) same (intro_above ms h (a + 1) n q (omega arith)))
    (λ e more. skip ms (h a) a q (filter h (range_with_len (a + 1) n)) e ∙ intro_within ms h (a + 1) n q more (omega arith) yes')
  where
    Goal : Type 0
    Goal = put (intros ms (filter h (range_with_len a (suc n)))) q ≡ ms

    on : (b : Bool) → (a == q) ≡ b → (a ≡ q → put (intros ms (filter h (range_with_len a (suc n)))) q ≡ ms) → ((a == q) ≡ false → a + 1 ≤ q → put (intros ms (filter h (range_with_len a (suc n)))) q ≡ ms) →
        put (intros ms (filter h (range_with_len a (suc n)))) q ≡ ms
    on true e here there = here (eqb-true a q e)
    on false e here there = there e (grind (arith, nat_tests))

-- no other entry stands there
intro_gone : (ms : List Content) (ps : List ℕ) (q : ℕ) → is_gone (intros ms ps) q ≡ false
intro_gone ms [] q = refl
intro_gone ms (p ∷ ps) q = list_any-append (is_gone_entry q) (map (λ m. Put p m) ms) (intros ms ps) ∙ ap (λ b. b || is_gone (intros ms ps) q) (one ms) ∙ intro_gone ms ps q
  where
    one : (ms : List Content) → list_any (is_gone_entry q) (map (λ m. Put p m) ms) ≡ false
    one [] = refl
    one (m ∷ ms) = one ms

intro_run : (ms : List Content) (ps : List ℕ) → has_run (intros ms ps) ≡ false
intro_run ms [] = refl
intro_run ms (p ∷ ps) = list_any-append is_running_entry (map (λ m. Put p m) ms) (intros ms ps) ∙ ap (λ b. b || has_run (intros ms ps)) (one ms) ∙ intro_run ms ps
  where
    one : (ms : List Content) → list_any is_running_entry (map (λ m. Put p m) ms) ≡ false
    one [] = refl
    one (m ∷ ms) = one ms

or_gone : (a b : Bool) → (a || b) ≡ false → a ≡ false
or_gone true b h = absurd cc
or_gone false b h = refl

-- where nobody is gone nothing is behind it
silent_of : (q : ℕ) (es : List Entry) → is_gone es q ≡ false → IsSilent q es
silent_of q es none front rest e gone =
    let h = or_gone (is_gone front q) (is_gone rest q) (sym (list_any-append (is_gone_entry q) front rest) ∙ sym (ap (λ x. is_gone x q) e) ∙ none) in absurd (let k = sym h ∙ gone in cc)

abbrev met_at : Setup → List Service → Bool → Said
met_at S services ended = record { hello = true; coordinated = S.coordinated; synchronised = is_some S.step; services = services; ended = ended; status = None; announced = None; left = false }

at_end : {X : Type 0} (front : List X) (x : X) (back : List X) → slice_get (front ++ x ∷ back) (length front) ≡ Some x
at_end [] x back = refl
at_end (y ∷ front) x back = at_end front x back

-- services with rising numbers, ServicesEnd, and the rest
intro_runs : (S : Setup) (numbered : (i : ℕ) (s : Service) → slice_get S.services i ≡ Some s → s.id ≡ i) (front back : List Service) (more : List Content) (e : Said) → S.services ≡ front ++ back →
    Runs (met_at S (map told_service S.services) true) more e → Runs (met_at S (map told_service front) false) (map announced_service back ++ contents.ServicesEnd ∷ more) e
intro_runs S numbered front [] more e is runs = (refl, subst (λ xs. Runs (met_at S (map told_service xs) true) more e) (is ∙ append-nil front) runs)
intro_runs S numbered front (s ∷ back) more e is runs =
    let id : s.id ≡ length front = numbered (length front) s (ap (λ xs. slice_get xs (length front)) is ∙ at_end front s back) in
    let len = length-map front told_service in
    let fit : (s.id == length (map told_service front)) ≡ true = (let k : s.id ≡ length (map told_service front) = omega arith in grind (arith, nat_tests)) in (
      fit,
      subst (λ xs. Runs (met_at S xs false) (map announced_service back ++ contents.ServicesEnd ∷ more) e) (map-append told_service front (s ∷ []))
          (intro_runs S numbered (front ++ s ∷ []) back more e (is ∙ sym (append_assoc front (s ∷ []) back)) runs),
    )

no_orderly : (name : List ℕ) → IsOrderly name []
no_orderly name [] m rest e = absurd cc
no_orderly name (x ∷ front) m rest e = absurd cc

hello_opens : (S : Setup) → may_say false (own_name S) (said_of []) (hello S (own_name S)) ≡ true
unfolding may_say
hello_opens S = and_from (bytes_eq (own_name S) (own_name S)) true (same_bytes (own_name S)) refl

module _ (S : Setup) (q : ℕ) (peer : is_peer S q ≡ true) (sized : (size : ℕ) → S.step ≡ Some size → 0 < size) (numbered : (i : ℕ) (s : Service) → slice_get S.services i ≡ Some s → s.id ≡ i) where
  begun : Past
  begun = record {
    journal = flat_map (λ p. map (λ m. Put p m) (introduction S)) (peers S);
    memory = record { called = false; asked = false; pause = None; tools = []; services = new_states S.services; ready_awaited = false };
  }

  put_begun : put begun.journal q ≡ introduction S
  unfolding begun
  put_begun =
      let b = and_parts (nat_lt q (length S.names)) (not (q == S.number)) peer in
      let c : nat_lt q (length S.names) ≡ true = b.0 in
      intro_within (introduction S) (λ p. not (p == S.number)) 0 (length S.names) q (omega arith) (grind (arith, nat_tests)) b.1

  spoken_made : Spoken S q (enter_only S ServicesCreated 0 begun)
  unfolding begun is_state
  spoken_made =
      let p = puts_enter_only S q peer ServicesCreated 0 begun in
      let now : Past = enter_only S ServicesCreated 0 begun in
      let all : put now.journal q ≡ introduction S ++ contents.Status ServicesCreated 0 ∷ [] =
      puts_all p ∙ ap (λ b. put begun.journal q ++ unless b (contents.Status ServicesCreated 0 ∷ [])) (intro_gone (introduction S) (peers S) q) ∙ ap (λ ms. ms ++ contents.Status ServicesCreated 0 ∷ []) put_begun in
      let first : Content = hello S (own_name S) in
      let shape : introduction S ++ contents.Status ServicesCreated 0 ∷ [] ≡ (first ∷ []) ++ (map announced_service S.services ++ contents.ServicesEnd ∷ contents.Status ServicesCreated 0 ∷ []) =
      ap (λ ms. first ∷ ms) (append_assoc (map announced_service S.services) (contents.ServicesEnd ∷ []) (contents.Status ServicesCreated 0 ∷ [])) in
      let stood : stands S now ≡ says S ServicesCreated None false =
      stands_entered S q peer ServicesCreated 0 begun now (moment now)
      ∙ says_eq S refl (ap (λ r. announcement S.step (r || false) (open_step begun.journal) (last_begun begun.journal)) (intro_run (introduction S) (peers S))) refl in
      let r = orderly_run (own_name S) (first ∷ []) (map announced_service S.services ++ contents.ServicesEnd ∷ contents.Status ServicesCreated 0 ∷ []) (stands S now)
      (orderly_add (own_name S) [] first (no_orderly (own_name S)) (hello_opens S)) refl
      (subst (λ s. Runs s (map announced_service S.services ++ contents.ServicesEnd ∷ contents.Status ServicesCreated 0 ∷ []) (stands S now)) (sym (said_add [] first))
      (intro_runs S numbered [] S.services (contents.Status ServicesCreated 0 ∷ []) (stands S now) refl (refl, sym stood))) in
      record {
        orderly = subst (IsOrderly (own_name S)) (sym (all ∙ shape)) r.0;
        now = λ g. ap said_of (all ∙ shape) ∙ r.1;
        silent = silent_of q now.journal (p.gone ∙ intro_gone (introduction S) (peers S) q);
        kinds = kinds_enter_only S q peer ServicesCreated 0 begun ∙ kinds_new S.services;
      }

  spoken_making : Spoken S q (making S)
  unfolding making enter_until is_state begun
  spoken_making = spoken_made

  -- what was put to q comes in order, and says where the participant stands
  pub spoken : (past : Past) (made : List Made) → Lawful S past made → Spoken S q past
  spoken past made starts = spoken_making
  spoken past made (goes_on was now before more law h) =
      let b = lawful_built S was before law in
      spoken_judge_limits S q peer sized now (built_happens S was more now h b) (spoken_happens S q peer sized was more now h b (spoken was before law))

-- a step size is above 0
pub sized : (S : Setup) → IsSetup S → (size : ℕ) → S.step ≡ Some size → 0 < size
unfolding is_step_size
sized S may size e =
    let h : is_step_size size ≡ true = subst (λ o. IfSome o (λ n. IsTrue (is_step_size n))) e may.sized in
    let a = (and_parts (nat_le 1 size) (nat_le size (2 ^ 60)) h).0 in grind (arith, nat_tests)

pub puts_in_order : PutsAreInOrder
puts_in_order S past made law may q peer = let h = spoken S q peer (sized S may) may.numbered past made law in record { order = h.orderly; silent = h.silent }
