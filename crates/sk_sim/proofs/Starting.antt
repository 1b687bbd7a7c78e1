-- A seat that was just made.
use Rattle.std.specs.Prelude.{◌≡◌, refl, ℕ, zero, suc, ◌+◌, ◌<◌, ◌≤◌, ◌==◌, Bool, true, false, IsTrue, IfSome, List, [], ◌∷◌, ◌++◌, length, map, replicate, Option, Some, None, slice_get, slice_index_or, option_to_list, drop, if◌then◌else◌}
use Rattle.std.specs.List.{filter_map, flat_map, list_all, cons_option, fold}
use Rattle.std.proofs.Common.{ap, sym, ◌∙◌, subst, arith}
use Rattle.std.proofs.lemmas.Bool.{and_parts, eqb-true}
use Rattle.std.proofs.lemmas.Option.{same_Some}
use Rattle.std.proofs.lemmas.List.Elements.{filter_map-append}
use Rattle.std.proofs.lemmas.List.Sums.{fold-append}
use Rattle.sk_msg.specs.Each.{each_after}
use Rattle.sk_msg.specs.Rules.{is_step_size, is_new_name}
use Rattle.sk_msg.specs.declared.content.Content.{Content}
use Rattle.sk_msg.specs.declared.content.Content.TheVariants as contents
use Rattle.sk_msg.specs.declared.entry.Entry.{Entry}
use Rattle.sk_msg.specs.declared.entry.Entry.TheVariants.{Put, State as Entered, System as Judged}
use Rattle.sk_msg.specs.declared.service.Service.{Service}
use Rattle.sk_msg.specs.declared.state.State.{State}
use Rattle.sk_msg.specs.declared.state.State.TheVariants.{Invalid, ServicesCreated, Error}
use Rattle.sk_msg.specs.Edges.{has_edge}
use Rattle.sk_msg.specs.States.{is_state}
use Rattle.sk_pubsub.specs.Announcing.{are_numbered}
use Rattle.sk_law.specs.declared.setup.Setup.{Setup}
use Rattle.sk_law.specs.Setups.{IsSetup}
use Rattle.sk_law.specs.Past.{Past, add, put_each}
use Rattle.sk_law.specs.Links.{peers, told, system}
use Rattle.sk_law.specs.Readings.{state_of, state_after, got, got_from, gones, gone_of, put, system_told}
use Rattle.sk_law.specs.Kept.{Kept}
use Rattle.sk_law.specs.Lawful.{Lawful}
use Rattle.sk_law.specs.Bounded.{PutsBounded}
use Rattle.sk_law.specs.Blocks.{making, enter_until, judge_system, introduction}
use Rattle.sk_node.specs.Known.{IsSound}
use Rattle.sk_mesh.specs.Places.{Account, place, size}
use Rattle.sk_sim.specs.declared.wired.Wired.{Wired}
use Rattle.sk_sim.specs.Wiring.{IsTied, IsBounded, IsFresh, held_at, out_of, waits}
use Rattle.sk_sim.specs.Cards.{counts}
use Rattle.sk_sim.proofs.Counting.{count_is}
use Rattle.sk_sim.proofs.Calls.{most_states}

-- ## What making adds: what is put, a state, and the system state

module _ {X : Type 0} (f : Entry → Option X) (puts : (q : ℕ) (m : Content) → f (Put q m) ≡ None) (enters : (s : State) → f (Entered s) ≡ None) (judges : (s : State) → f (Judged s) ≡ None) where
  one : (e : Entry) → f e ≡ None → filter_map f (e ∷ []) ≡ []
  one e none = ap (λ o. cons_option o []) none

  to_each : (numbers : List ℕ) (m : Content) → filter_map f (map (λ q. Put q m) numbers) ≡ []
  to_each [] m = refl
  to_each (n ∷ numbers) m = ap (λ o. cons_option o (filter_map f (map (λ q. Put q m) numbers))) (puts n m) ∙ to_each numbers m

  to_one : (p : ℕ) (ms : List Content) → filter_map f (map (λ m. Put p m) ms) ≡ []
  to_one p [] = refl
  to_one p (m ∷ ms) = ap (λ o. cons_option o (filter_map f (map (λ n. Put p n) ms))) (puts p m) ∙ to_one p ms

  introduced : (ms : List Content) (ps : List ℕ) → filter_map f (flat_map (λ p. map (λ m. Put p m) ms) ps) ≡ []
  introduced ms [] = refl
  introduced ms (p ∷ ps) =
      filter_map-append f (map (λ m. Put p m) ms) (flat_map (λ q. map (λ m. Put q m) ms) ps)
      ∙ (ap (λ l. l ++ filter_map f (flat_map (λ q. map (λ m. Put q m) ms) ps)) (to_one p ms) ∙ introduced ms ps)

  behind_both : (es fs : List Entry) → filter_map f es ≡ [] → filter_map f fs ≡ [] → filter_map f (es ++ fs) ≡ []
  behind_both es fs h i = filter_map-append f es fs ∙ (ap (λ l. l ++ filter_map f fs) h ∙ i)

  judged : (S : Setup) (past : Past) → filter_map f past.journal ≡ [] → filter_map f (judge_system S past).journal ≡ []
  unfolding judge_system
  judged S past h = on (is_state (system S past) (system_told past.journal))
    where
      on : (b : Bool) → filter_map f (if b then past else add (Judged (system S past)) past).journal ≡ []
      on true = h
      on false = behind_both past.journal (Judged (system S past) ∷ []) h (one (Judged (system S past)) (judges (system S past)))

  entered : (S : Setup) (past : Past) → filter_map f past.journal ≡ [] → filter_map f (enter_until S ServicesCreated 0 past).journal ≡ []
  unfolding enter_until is_state
  entered S past h =
      judged S (put_each (told S past) (contents.Status ServicesCreated 0) (add (Entered ServicesCreated) past))
      (behind_both (past.journal ++ Entered ServicesCreated ∷ []) (map (λ q. Put q (contents.Status ServicesCreated 0)) (told S past))
      (behind_both past.journal (Entered ServicesCreated ∷ []) h (one (Entered ServicesCreated) (enters ServicesCreated)))
      (to_each (told S past) (contents.Status ServicesCreated 0)))

  pub made : (S : Setup) → filter_map f (making S).journal ≡ []
  unfolding making
  made S = entered S _ (introduced (introduction S) (peers S))

nothing_got : (S : Setup) (p : ℕ) → got (making S).journal p ≡ []
nothing_got S p = made (got_from p) (λ q m. refl) (λ s. refl) (λ s. refl) S

nothing_gone : (S : Setup) (p : ℕ) → gones (making S).journal p ≡ []
nothing_gone S p = made (gone_of p) (λ q m. refl) (λ s. refl) (λ s. refl) S

-- ## The seat

judged_tools : (S : Setup) (past : Past) → (judge_system S past).memory.tools ≡ past.memory.tools
unfolding judge_system
judged_tools S past = on (is_state (system S past) (system_told past.journal))
  where
    on : (b : Bool) → (if b then past else add (Judged (system S past)) past).memory.tools ≡ past.memory.tools
    on true = refl
    on false = refl

entered_tools : (S : Setup) (past : Past) → (enter_until S ServicesCreated 0 past).memory.tools ≡ past.memory.tools
unfolding enter_until is_state
entered_tools S past = judged_tools S (put_each (told S past) (contents.Status ServicesCreated 0) (add (Entered ServicesCreated) past))

no_tools : (S : Setup) → (making S).memory.tools ≡ []
unfolding making
no_tools S = entered_tools S _

same_at : {X : Type 0} (x : X) (n q : ℕ) → slice_index_or (replicate n x) q x ≡ x
same_at x zero q = refl
same_at x (suc n) zero = refl
same_at x (suc n) (suc q) = same_at x n q

length_of : {X : Type 0} (x : X) (n : ℕ) → length (replicate n x) ≡ n
length_of x zero = refl
length_of x (suc n) = ap suc (length_of x n)

pub new_tied : (a : Wired) (setup : Setup) → a.node.kept.setup ≡ setup → a.node.kept.past ≡ making setup →
    a.node.kept.out ≡ replicate (length setup.names) 0 → a.node.poisoned ≡ false → IsSound a.node →
    a.ends.number ≡ setup.number → setup.number < length setup.names → length setup.names ≤ 32 → size (place a.ends) ≡ length setup.names →
    IsFresh a.ends → a.held.items ≡ replicate (size (place a.ends)) None → length setup.services ≤ 64 → IsTied a
new_tied a setup is_setup is_past is_out fine good number within few ways fresh held services = record {
  sound = fine;
  own = number ∙ ap (λ (S : Setup). S.number) (sym is_setup);
  within = subst (λ (S : Setup). S.number < length S.names) (sym is_setup) within;
  ways = ways ∙ ap (λ (S : Setup). length S.names) (sym is_setup);
  least = (let w = ways in omega arith);
  out_is = ap length is_out ∙ (length_of 0 (length setup.names) ∙ sym ways);
  held_is = ap length held ∙ length_of None (size (place a.ends));
  alone = ap (λ (past : Past). past.memory.tools) is_past ∙ no_tools setup;
  got_is = λ p. ap (λ (past : Past). got past.journal p) is_past ∙ (nothing_got setup p ∙ sym (fresh.popped p));
  silent = ap (λ (past : Past). got past.journal a.ends.number) is_past ∙ nothing_got setup a.ends.number;
  put_is = λ q. sym (ap (λ l. l ++ waits a q) (fresh.pushed q)
      ∙ (ap (λ o. option_to_list o ++ drop (out_of a.node.kept q) (put a.node.kept.past.journal q)) (ap (λ l. held_at l q) held ∙ same_at None (size (place a.ends)) q)
      ∙ ap (λ n. drop n (put a.node.kept.past.journal q)) (ap (λ l. slice_index_or l q 0) is_out ∙ same_at 0 (length setup.names) q)));
  taken = good.within;
  refused = λ p. ap (λ l. list_all (λ reason. reason == 8) l) (ap (λ (past : Past). gones past.journal p) is_past ∙ nothing_gone setup p);
  unlost = λ p other. ap (λ (past : Past). gones past.journal p) is_past ∙ nothing_gone setup p;
  services = subst (λ (S : Setup). length S.services ≤ 64) (sym is_setup) services;
  short = good.short fine;
  roomy = fresh.roomy;
}

-- the first state is ServicesCreated

judged_state : (S : Setup) (past : Past) → state_of (judge_system S past).journal ≡ state_of past.journal
unfolding judge_system
judged_state S past = on (is_state (system S past) (system_told past.journal))
  where
    on : (b : Bool) → state_of (if b then past else add (Judged (system S past)) past).journal ≡ state_of past.journal
    on true = refl
    on false = fold-append state_after Invalid past.journal (Judged (system S past) ∷ [])

puts_state : (numbers : List ℕ) (m : Content) (s : State) → fold state_after s (map (λ q. Put q m) numbers) ≡ s
puts_state [] m s = refl
puts_state (n ∷ numbers) m s = puts_state numbers m s

entered_state : (S : Setup) (past : Past) → state_of (enter_until S ServicesCreated 0 past).journal ≡ ServicesCreated
unfolding enter_until is_state
entered_state S past =
    judged_state S (put_each (told S past) (contents.Status ServicesCreated 0) (add (Entered ServicesCreated) past))
    ∙ (fold-append state_after Invalid (past.journal ++ Entered ServicesCreated ∷ []) (map (λ q. Put q (contents.Status ServicesCreated 0)) (told S past))
    ∙ (puts_state (told S past) (contents.Status ServicesCreated 0) (state_of (past.journal ++ Entered ServicesCreated ∷ []))
    ∙ fold-append state_after Invalid past.journal (Entered ServicesCreated ∷ [])))

pub first_state : (S : Setup) → state_of (making S).journal ≡ ServicesCreated
unfolding making
first_state S = entered_state S _

early : has_edge ServicesCreated Error ≡ true
unfolding has_edge is_state
early = refl

pub new_bounded : PutsBounded → (k : Kept) (setup : Setup) → k.setup ≡ setup → k.past ≡ making setup → Lawful setup k.past [] →
    (has_edge (state_of k.past.journal) Error ≡ true → length k.past.journal < 500000) → IsBounded k
new_bounded law k setup is_setup is_past lawful short = record {
  lawful = ∣ ([], subst (λ (S : Setup). Lawful S k.past []) (sym is_setup) lawful) ∣₁;
  few = λ q low. (
      let s = short (ap (λ (past : Past). has_edge (state_of past.journal) Error) is_past ∙ (ap (λ s. has_edge s Error) (first_state setup) ∙ early)) in
      let l = law.within k.past.journal q in let t = most_states (state_of k.past.journal) in omega arith);
}

-- each service has the number of its place
number_at : (next : ℕ) (services : List Service) (i : ℕ) (s : Service) → IsTrue (are_numbered next services) → slice_get services i ≡ Some s → s.id ≡ next + i
number_at next [] i s numbered at = absurd cc
number_at next (first ∷ services) zero s numbered at =
    let e : first.id ≡ next = eqb-true first.id next (and_parts (first.id == next) (are_numbered (next + 1) services) numbered).0 in
    let same : first ≡ s = same_Some first s at in
    ap (λ (x : Service). x.id) (sym same) ∙ (e ∙ omega arith)
number_at next (first ∷ services) (suc i) s numbered at =
    number_at (next + 1) services i s (and_parts (first.id == next) (are_numbered (next + 1) services) numbered).1 at ∙ omega arith

-- what the laws ask of a setup
pub is_setup : (S : Setup) → S.number < length S.names → length S.names ≤ 32 → IsTrue (each_after is_new_name [] S.names) →
    IfSome S.required (λ names. IsTrue (each_after is_new_name [] names)) → IfSome S.step (λ n. IsTrue (is_step_size n)) → IsTrue (are_numbered 0 S.services) → IsSetup S
is_setup S within few names required step numbered = record {
  within = within;
  few = few;
  named = names;
  numbered = λ i s at. number_at 0 S.services i s numbered at ∙ omega arith;
  sized = step;
  distinct = required;
}

-- nothing was pushed through fresh ends
pub unpushed : (a : Account) → IsFresh a → (q : ℕ) → slice_index_or (counts a) q 0 ≡ 0
unpushed a fresh q = count_is a q ∙ ap length (fresh.pushed q)
