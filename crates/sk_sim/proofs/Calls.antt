-- What calls of a participant put.
use Rattle.std.specs.Prelude.{◌≡◌, ◌≤◌, refl, ℕ, ◌+◌, ◌*◌, length}
use Rattle.std.proofs.Common.{ap, sym, ◌∙◌, subst, inl, inr, arith}
use Rattle.sk_msg.specs.declared.state.State.{State}
use Rattle.sk_msg.specs.declared.state.State.TheVariants.{Invalid, ServicesCreated, CommunicationInitializing, CommunicationInitialized, ReadyToRun, Running, Paused, Stopping, Stopped, Error, ShuttingDown, Shutdown, Aborting}
use Rattle.sk_law.specs.declared.setup.Setup.{Setup}
use Rattle.sk_law.specs.Past.{Past}
use Rattle.sk_law.specs.Kept.{Kept}
use Rattle.sk_law.specs.Blocks.{judge_limits}
use Rattle.sk_law.specs.Bounded.{PutsBounded}
use Rattle.sk_law.specs.Ends.{states_left}
use Rattle.sk_law.specs.Readings.{put}
use Rattle.sk_law.specs.Receivers.{is_over}
use Rattle.sk_node.specs.Lists.{Lists}
use Rattle.sk_node.specs.Went.{Went as WentOne}
use Rattle.sk_sim.specs.Parts.{PutsFew}

-- ## Several calls

pub puts_none : (n : ℕ) (S : Setup) (a : Past) → PutsFew n S a a
puts_none n S a = record {
  few = λ q. omega arith;
  states = omega arith;
  over = λ is. inl (record { state = refl; none = λ p low. refl });
}

pub puts_more : {m : ℕ} (n : ℕ) {S : Setup} {a b : Past} → m ≤ n → PutsFew m S a b → PutsFew n S a b
puts_more {m} n {S} {a} {b} le f = record { few = λ q. (let k = f.few q in omega arith); states = f.states; over = f.over }

pub puts_both : {m n : ℕ} {S : Setup} {a b c : Past} → PutsFew m S a b → PutsFew n S b c → PutsFew (m + n) S a c
puts_both {m} {n} {S} {a} {b} {c} f g = record {
  few = λ q. (let k = f.few q in let l = g.few q in omega arith);
  states = (let s = f.states in let t = g.states in omega arith);
  over = λ is. elim (f.over is) [
    | inl still ↦ elim (g.over (ap is_over still.state ∙ is)) [
      | inl again ↦ inl (record { state = again.state ∙ still.state; none = λ p low. again.none p low ∙ still.none p low })
      | inr less ↦ inr (let s = ap states_left still.state in omega arith)
    ]
    | inr less ↦ inr (let t = g.states in omega arith)
  ];
}

-- one call that was served
pub puts_one : PutsBounded → (a b : Kept) (was now : Lists) → WentOne a b was now → length a.setup.services ≤ 64 → PutsFew 1 a.setup a.past b.past
puts_one law a b was now w few =
    let past_is : b.past ≡ judge_limits a.setup w.past = ap (λ (k : Kept). k.past) w.whole in
    subst (λ (p : Past). PutsFew 1 a.setup a.past p) (sym past_is) (record {
      few = λ q. (
          let l : length (put (judge_limits a.setup w.past).journal q) ≤ length (put a.past.journal q) + (770 * length a.setup.services + 773) = law.at_once a.setup a.past w.past w.made q w.happens in omega arith);
      states = law.states a.setup a.past w.past w.made w.happens;
      over = λ is. law.over a.setup a.past w.past w.made is w.happens;
    })

-- so many states are still to come at most
pub most_states : (s : State) → states_left s ≤ 3
most_states Invalid = omega arith
most_states ServicesCreated = omega arith
most_states CommunicationInitializing = omega arith
most_states CommunicationInitialized = omega arith
most_states ReadyToRun = omega arith
most_states Running = omega arith
most_states Paused = omega arith
most_states Stopping = omega arith
most_states Stopped = omega arith
most_states Error = omega arith
most_states ShuttingDown = omega arith
most_states Shutdown = omega arith
most_states Aborting = omega arith
