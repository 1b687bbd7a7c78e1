-- A peer that is ready for every step changes no answer.
use Rattle.std.proofs.Common.{◌≡◌, ◌<◌, ℕ, zero, suc, true, false, List, ◌∷◌, ◌++◌, length, get_or, Option, Some, refl, subst, arith, inl, inr}
use Rattle.std.specs.Prelude.{◌⊎◌, ◌↔◌, All, Contains, IsSome}
use Rattle.std.proofs.lemmas.List.Elements.{All-contains, Contains-append_left, Contains-append_right, Contains-append_cases}
use Rattle.sk_timesync.specs.Notes.{PeerNotes, Notes}
use Rattle.sk_timesync.specs.Rule.{IsReady, FirstHoldsUp, Answers}
use Rattle.sk_timesync.specs.declared.answer.MayBegin.{MayBegin}
use Rattle.sk_timesync.specs.declared.answer.MayBegin.TheVariants.{Yes, Waits, Open}
use Rattle.sk_timesync.proofs.RuleLaws.{each, not_both}

in_tail : (x y : PeerNotes) (xs : List PeerNotes) → Contains xs y → Contains (x ∷ xs) y
in_tail x y xs here = (suc here.0, omega (arith, here.1), here.2)

head_or_tail : (x y : PeerNotes) (xs : List PeerNotes) (k : ℕ) → k < length (x ∷ xs) → get_or (x ∷ xs) k y ≡ y → (x ≡ y) ⊎ Contains xs y
head_or_tail x y xs zero within here = inl here
head_or_tail x y xs (suc k) within here = inr (k, omega arith, here)

-- with one peer more
wider : (before after : List PeerNotes) (peer other : PeerNotes) → Contains (before ++ after) other → Contains (before ++ peer ∷ after) other
wider before after peer other here =
    elim (Contains-append_cases before after other here) [
      | inl front ↦ Contains-append_left before (peer ∷ after) other front
      | inr back ↦ Contains-append_right before (peer ∷ after) other (in_tail peer other after back)
    ]

-- with one peer less
narrower : (before after : List PeerNotes) (peer other : PeerNotes) → Contains (before ++ peer ∷ after) other → (peer ≡ other) ⊎ Contains (before ++ after) other
narrower before after peer other here =
    elim (Contains-append_cases before (peer ∷ after) other here) [
      | inl front ↦ inr (Contains-append_left before after other front)
      | inr rest ↦ elim (head_or_tail peer other after rest.0 rest.1 rest.2) [
        | inl same ↦ inl same
        | inr back ↦ inr (Contains-append_right before after other back)
      ]
    ]

All-narrower : (P : PeerNotes → Type 0) (before after : List PeerNotes) (peer : PeerNotes) → All P (before ++ peer ∷ after) → All P (before ++ after)
All-narrower P before after peer all =
    each P (before ++ after) (λ other here. All-contains P (before ++ peer ∷ after) other all (wider before after peer other here))

All-wider : (P : PeerNotes → Type 0) (before after : List PeerNotes) (peer : PeerNotes) → P peer → All P (before ++ after) → All P (before ++ peer ∷ after)
All-wider P before after peer one all =
    each P (before ++ peer ∷ after) (λ other here.
    elim (narrower before after peer other here) [ inl same ↦ subst P same one | inr there ↦ All-contains P (before ++ after) other all there ])

first_narrower : (at : ℕ) (before after : List PeerNotes) (peer : PeerNotes) (number : ℕ) (announced : Option ℕ) → IsReady at peer →
    FirstHoldsUp at (before ++ peer ∷ after) number announced → FirstHoldsUp at (before ++ after) number announced
first_narrower at before after peer number announced ready first = record {
  peer = first.peer;
  added = elim (narrower before after peer first.peer first.added) [
    | inl same ↦ absurd (not_both at first.peer (subst (λ (other : PeerNotes). IsReady at other) same ready) first.holds)
    | inr there ↦ there
  ];
  is_number = first.is_number;
  is_announced = first.is_announced;
  holds = first.holds;
  lower = All-narrower (λ other. other.number < number → IsReady at other) before after peer first.lower;
}

first_wider : (at : ℕ) (before after : List PeerNotes) (peer : PeerNotes) (number : ℕ) (announced : Option ℕ) → IsReady at peer →
    FirstHoldsUp at (before ++ after) number announced → FirstHoldsUp at (before ++ peer ∷ after) number announced
first_wider at before after peer number announced ready first = record {
  peer = first.peer;
  added = wider before after peer first.peer first.added;
  is_number = first.is_number;
  is_announced = first.is_announced;
  holds = first.holds;
  lower = All-wider (λ other. other.number < number → IsReady at other) before after peer (λ lower. ready) first.lower;
}

pub counts_not : (notes : Notes) (before after : List PeerNotes) (peer : PeerNotes) (answer : MayBegin) → ((at : ℕ) → IsReady at peer) →
    Answers (record notes { peers = before ++ peer ∷ after }) answer ↔ Answers (record notes { peers = before ++ after }) answer
counts_not notes before after peer (Open number) ready = (λ a. a, λ a. a)
counts_not notes before after peer (Waits number announced) ready = (
  λ a. (a.0, first_narrower notes.next before after peer number announced (ready notes.next) a.1),
  λ a. (a.0, first_wider notes.next before after peer number announced (ready notes.next) a.1),
)
counts_not notes before after peer (Yes at) ready = (
  λ a. (record { closed = a.0.closed; ready = All-narrower (IsReady notes.next) before after peer a.0.ready }, a.1),
  λ a. (record { closed = a.0.closed; ready = All-wider (IsReady notes.next) before after peer (ready notes.next) a.0.ready }, a.1),
)

-- who has left is ready for every step, and so is who isn't synchronised
pub ready_left : (peer : PeerNotes) → IsSome peer.synchronised → peer.left ≡ true → (at : ℕ) → IsReady at peer
ready_left peer known left at = record { known = known; announced = λ e present. absurd (cc (left, present)) }

pub ready_unsynchronised : (peer : PeerNotes) → peer.synchronised ≡ Some false → (at : ℕ) → IsReady at peer
ready_unsynchronised peer not_it at = record { known = rw not_it refl; announced = λ e. absurd (cc (not_it, e)) }
