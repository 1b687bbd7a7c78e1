-- How few messages are put, turn by turn.
use Rattle.std.specs.Prelude.{◌≡◌, ◌≢◌, ◌<◌, ◌≤◌, ◌⊎◌, refl, ℕ, ◌+◌, ◌-◌, ◌*◌, ◌^◌, Bool, true, false, List, [], ◌∷◌, ◌++◌, length, is_none, if◌then◌else◌}
use Rattle.std.specs.List.{fold}
use Rattle.std.proofs.Common.{ap, sym, ◌∙◌, subst, inl, inr, arith}
use Rattle.std.proofs.lemmas.Bool.{cases_eq}
use Rattle.std.proofs.Math.Logic.{∥∥₁_elim, ∥∥₁_map}
use mathlib.Core.HLevel.{⊥_prop}
use Rattle.sk_msg.specs.declared.entry.Entry.{Entry}
use Rattle.sk_msg.specs.declared.entry.Entry.TheVariants.{State as Entered}
use Rattle.sk_msg.specs.declared.state.State.{State}
use Rattle.sk_msg.specs.declared.state.State.TheVariants.{Invalid, ServicesCreated, CommunicationInitializing, CommunicationInitialized, ReadyToRun, Running, Paused, Stopping, Stopped, Error, ShuttingDown, Shutdown, Aborting}
use Rattle.sk_msg.specs.Edges.{has_edge, IsPath, IsWalk}
use Rattle.sk_msg.specs.States.{is_state}
use Rattle.sk_law.specs.declared.setup.Setup.{Setup}
use Rattle.sk_law.specs.Past.{Past}
use Rattle.sk_law.specs.Bounded.{PutsBounded}
use Rattle.sk_law.specs.Ends.{states_left, unwritten_left, left}
use Rattle.sk_law.specs.Lawful.{Lawful}
use Rattle.sk_law.specs.Readings.{state_of, state_after, states, put}
use Rattle.sk_law.specs.Receivers.{is_over}
use Rattle.sk_law.specs.Rows.{is_quiet, row, row_in}
use Rattle.sk_law_world.specs.Once.{StatesWalk}
use Rattle.sk_node.specs.Known.{Known}
use Rattle.sk_node.specs.Lists.{Lists}
use Rattle.sk_node.specs.Turning.{IsTurned}
use Rattle.sk_node.specs.declared.rows.Turned.{Turned}
use Rattle.sk_node.specs.declared.rows.Turned.TheVariants.{Entries, Counted, Quiet, Finished}
use Rattle.sk_mesh.specs.Places.{place, size}
use Rattle.sk_sim.specs.declared.wired.Wired.{Wired}
use Rattle.sk_sim.specs.Wiring.{IsBounded}
use Rattle.sk_sim.specs.Cards.{card_of}
use Rattle.sk_sim.specs.Parts.{Goes, PutsFew}
use Rattle.sk_sim.proofs.Calls.{most_states}
use Rattle.sk_sim.proofs.Turning.{Went, turn_says}

-- ## States

-- in the states in which the limits aren't judged
late_states : (s : State) → has_edge s Error ≡ false → states_left s ≤ 2
unfolding has_edge is_state
late_states ServicesCreated h = absurd cc
late_states CommunicationInitializing h = absurd cc
late_states CommunicationInitialized h = absurd cc
late_states ReadyToRun h = absurd cc
late_states Running h = absurd cc
late_states Paused h = absurd cc
late_states Stopping h = absurd cc
late_states Stopped h = absurd cc
late_states Invalid h = omega arith
late_states Error h = omega arith
late_states ShuttingDown h = omega arith
late_states Shutdown h = omega arith
late_states Aborting h = omega arith

-- nothing is handed any more, or one state is still to come
over_or_last : (s : State) → has_edge s Error ≡ false → s ≢ Invalid → (is_over s ≡ true) ⊎ (states_left s ≡ 1)
unfolding has_edge is_state
over_or_last ServicesCreated h valid = absurd cc
over_or_last CommunicationInitializing h valid = absurd cc
over_or_last CommunicationInitialized h valid = absurd cc
over_or_last ReadyToRun h valid = absurd cc
over_or_last Running h valid = absurd cc
over_or_last Paused h valid = absurd cc
over_or_last Stopping h valid = absurd cc
over_or_last Stopped h valid = absurd cc
over_or_last Invalid h valid = absurd (valid refl)
over_or_last Error h valid = inl refl
over_or_last ShuttingDown h valid = inr refl
over_or_last Shutdown h valid = inl refl
over_or_last Aborting h valid = inl refl

-- then the limits aren't judged
last_late : (s : State) → states_left s ≡ 1 → has_edge s Error ≡ false
unfolding has_edge is_state
last_late ServicesCreated h = absurd (omega arith)
last_late CommunicationInitializing h = absurd (omega arith)
last_late CommunicationInitialized h = absurd (omega arith)
last_late ReadyToRun h = absurd (omega arith)
last_late Running h = absurd (omega arith)
last_late Paused h = absurd (omega arith)
last_late Stopping h = absurd (omega arith)
last_late Stopped h = absurd (omega arith)
last_late Invalid h = refl
last_late Error h = refl
last_late ShuttingDown h = refl
last_late Shutdown h = refl
last_late Aborting h = refl

-- and a row is enabled
last_moves : (S : Setup) (past : Past) (s : State) → states_left s ≡ 1 → is_none (row_in S past s) ≡ true → ⊥
last_moves S past ServicesCreated h quiet = omega arith
last_moves S past CommunicationInitializing h quiet = omega arith
last_moves S past CommunicationInitialized h quiet = omega arith
last_moves S past ReadyToRun h quiet = omega arith
last_moves S past Running h quiet = omega arith
last_moves S past Paused h quiet = omega arith
last_moves S past Stopping h quiet = omega arith
last_moves S past Stopped h quiet = omega arith
last_moves S past Invalid h quiet = omega arith
last_moves S past Error h quiet = omega arith
last_moves S past ShuttingDown h quiet = cc
last_moves S past Shutdown h quiet = omega arith
last_moves S past Aborting h quiet = cc

not_quiet : (S : Setup) (past : Past) → states_left (state_of past.journal) ≡ 1 → is_quiet S past ≡ true → ⊥
unfolding row
not_quiet S past h quiet = last_moves S past (state_of past.journal) h quiet

-- ## No walk leads to Invalid

no_way_back : (s : State) → has_edge s Invalid ≡ true → ⊥
unfolding has_edge is_state
no_way_back ServicesCreated h = cc
no_way_back CommunicationInitializing h = cc
no_way_back CommunicationInitialized h = cc
no_way_back ReadyToRun h = cc
no_way_back Running h = cc
no_way_back Paused h = cc
no_way_back Stopping h = cc
no_way_back Stopped h = cc
no_way_back Invalid h = cc
no_way_back Error h = cc
no_way_back ShuttingDown h = cc
no_way_back Shutdown h = cc
no_way_back Aborting h = cc

abbrev last_of : State → List State → State
last_of s [] = s
last_of s (t ∷ ts) = last_of t ts

state_last : (s : State) (es : List Entry) → fold state_after s es ≡ last_of s (states es)
state_last s [] = refl
state_last s (Entered to ∷ es) = state_last to es
state_last s (e ∷ es) = state_last s es

path_valid : (s : State) (ts : List State) → s ≢ Invalid → IsPath s ts → last_of s ts ≢ Invalid
path_valid s [] valid path = valid
path_valid s (t ∷ ts) valid path = path_valid t ts (λ e. no_way_back s (subst (λ x. has_edge s x ≡ true) e path.0)) path.1

walk_valid : (es : List Entry) → IsWalk (states es) → state_of es ≢ Invalid
walk_valid es walk e = on (states es) walk (sym (state_last Invalid es) ∙ e)
  where
    on : (ts : List State) → IsWalk ts → last_of Invalid ts ≢ Invalid
    on [] w = absurd w
    on (first ∷ ts) w = path_valid first ts (λ same. let no : ServicesCreated ≡ Invalid = sym w.0 ∙ same in cc) w.1

-- ## The participant's turn

late_left : (past : Past) → has_edge (state_of past.journal) Error ≡ false → left past ≡ states_left (state_of past.journal)
unfolding left
late_left past late = on (has_edge (state_of past.journal) Error) late
  where
    on : (c : Bool) → c ≡ false → states_left (state_of past.journal) + (if c then (500000 - length past.journal) * 2 ^ 33 + unwritten_left past.memory else 0) ≡ states_left (state_of past.journal)
    on true e = absurd cc
    on false e = omega arith

least_left : (past : Past) → states_left (state_of past.journal) ≤ left past
unfolding left
least_left past = on (has_edge (state_of past.journal) Error)
  where
    on : (c : Bool) → states_left (state_of past.journal) ≤ states_left (state_of past.journal) + (if c then (500000 - length past.journal) * 2 ^ 33 + unwritten_left past.memory else 0)
    on true = omega arith
    on false = omega arith

-- where the limits aren't judged it leads to a further state, or nothing follows
acted : (did : Turned) (c d : Known) (was now : Lists) → IsTurned did c d was now → has_edge (state_of c.kept.past.journal) Error ≡ false →
    (states_left (state_of d.kept.past.journal) < states_left (state_of c.kept.past.journal)) ⊎ ((d ≡ c) × (is_quiet c.kept.setup c.kept.past ≡ true))
acted (Entries n) c d was now x late = inl (let l = x.0.less in let e = late_left c.kept.past late in let k = least_left d.kept.past in omega arith)
acted Counted c d was now x late = inl (let l = x.0.less in let e = late_left c.kept.past late in let k = least_left d.kept.past in omega arith)
acted Quiet c d was now x late = inr (x.1, x.0.quiet)
acted Finished c d was now x late = inr (x.1, x.0.quiet)

-- and so a turn puts nothing to a participant, or leads to a further state
turned_late : (did : Turned) (n : ℕ) (S : Setup) (b : Past) (c d : Known) (was now : Lists) → PutsFew n S b c.kept.past → PutsFew 1 S c.kept.past d.kept.past →
    IsTurned did c d was now → has_edge (state_of b.journal) Error ≡ false → state_of b.journal ≢ Invalid →
    ((q : ℕ) → q < length S.names → length (put d.kept.past.journal q) ≤ length (put b.journal q)) ⊎ (states_left (state_of d.kept.past.journal) < states_left (state_of b.journal))
turned_late did n S b c d was now f g turned late valid = elim (over_or_last (state_of b.journal) late valid) [
  | inl over ↦ elim (f.over over) [
    | inl still ↦ elim (acted did c d was now turned (ap (λ s. has_edge s Error) still.state ∙ late)) [
      | inl less ↦ inr (let s = ap states_left still.state in omega arith)
      | inr same ↦ inl (λ q low. let e = ap (λ (k : Known). length (put k.kept.past.journal q)) same.0 in let z = ap length (still.none q low) in omega arith)
    ]
    | inr less ↦ inr (let t = g.states in omega arith)
  ]
  | inr last ↦ elim (cases_eq (states_left (state_of c.kept.past.journal)) 1) [
    | inl e ↦ elim (acted did c d was now turned (last_late (state_of c.kept.past.journal) e)) [
      | inl less ↦ inr (omega arith)
      | inr same ↦ absurd (not_quiet c.kept.setup c.kept.past e same.1)
    ]
    | inr other ↦ inr (let s = f.states in let t = g.states in omega arith)
  ]
]

-- ## The seat's turn

module _ (law : PutsBounded) (walk : StatesWalk) (m1 m2 m3 : Bool) (did : Turned) (added : ℕ) (empty : Bool) (a b c d e : Wired) (was mid now : Lists) (w : Went m1 m2 m3 did added empty a b c d e was mid now) (h : IsBounded a.node.kept) where
  all : Goes (card_of a) (card_of e) was now
  all = (turn_says m1 m2 m3 did added empty a b c d e was mid now w).goes

  takes : PutsFew (size (place b.ends)) a.node.kept.setup a.node.kept.past c.node.kept.past
  takes = subst (λ (S : Setup). PutsFew (size (place b.ends)) S a.node.kept.past c.node.kept.past) w.first.node.0
      (subst (λ (p : Past). PutsFew (size (place b.ends)) b.node.kept.setup p c.node.kept.past) w.first.node.1 w.takes.puts)

  acts : PutsFew 1 a.node.kept.setup c.node.kept.past d.node.kept.past
  acts = subst (λ (S : Setup). PutsFew 1 S c.node.kept.past d.node.kept.past) (w.takes.goes.setup ∙ w.first.node.0) w.acts.puts

  same_states : states_left (state_of e.node.kept.past.journal) ≡ states_left (state_of d.node.kept.past.journal)
  same_states = ap (λ (p : Past). states_left (state_of p.journal)) w.again.node.1

  same_puts : (q : ℕ) → length (put e.node.kept.past.journal q) ≡ length (put d.node.kept.past.journal q)
  same_puts q = ap (λ (p : Past). length (put p.journal q)) w.again.node.1

  rise : (q : ℕ) → length (put e.node.kept.past.journal q) ≤ length (put a.node.kept.past.journal q) + 1683000
  rise q = let f = takes.few q in let g = acts.few q in let n = w.tied_b.least in let s = same_puts q in omega arith

  few : (q : ℕ) → q < length a.node.kept.setup.names → length (put e.node.kept.past.journal q) + 1700000 * states_left (state_of e.node.kept.past.journal) ≤ 5600000
  few q low = on (has_edge (state_of e.node.kept.past.journal) Error) refl (has_edge (state_of a.node.kept.past.journal) Error) refl
    where
      on : (x : Bool) → has_edge (state_of e.node.kept.past.journal) Error ≡ x → (y : Bool) → has_edge (state_of a.node.kept.past.journal) Error ≡ y →
          length (put e.node.kept.past.journal q) + 1700000 * states_left (state_of e.node.kept.past.journal) ≤ 5600000
      on true edge y at = let s = w.tied_e.short edge in let l = law.within e.node.kept.past.journal q in let t = most_states (state_of e.node.kept.past.journal) in omega arith
      on false late true edge =
          let s = w.tied_a.short edge in let l = law.within a.node.kept.past.journal q in let t = late_states (state_of e.node.kept.past.journal) late in let r = rise q in omega arith
      on false late false before =
          let valid : state_of a.node.kept.past.journal ≢ Invalid = (λ e. ∥∥₁_elim h.lawful ⊥_prop (λ l. walk_valid a.node.kept.past.journal (walk a.node.kept.setup a.node.kept.past l.0 l.1) e)) in
          let k = h.few q low in let r = rise q in let p = same_puts q in let s = same_states in
          let f = takes.states in let g = acts.states in
          elim (turned_late did (size (place b.ends)) a.node.kept.setup a.node.kept.past c.node d.node mid now takes acts w.acts.turned before valid) [
            | inl none ↦ let z = none q low in omega arith
            | inr less ↦ omega arith
          ]

  pub stays_bounded : IsBounded e.node.kept
  stays_bounded = record {
    lawful = ∥∥₁_map h.lawful (λ l. (l.0 ++ all.made, subst (λ (S : Setup). Lawful S e.node.kept.past (l.0 ++ all.made)) (sym all.setup) (all.lawful l.0 l.1)));
    few = λ q low. few q (subst (λ (S : Setup). q < length S.names) all.setup low);
  }
