-- A talk that goes on by one answer.
use Rattle.std.proofs.Common.{◌≡◌, ◌≤◌, ◌<◌, ◌+◌, ◌⊎◌, ℕ, zero, suc, Bool, true, false, ◌||◌, cond, Some, None, List, [], ◌∷◌, ◌++◌, length, take, refl, sym, ◌∙◌, ap, subst, arith, inl, inr, append_assoc, append-nil, length-append, eq-or-lt_of_le}
use Rattle.std.proofs.lemmas.Grind.{flat_map-append}
use Rattle.std.proofs.lemmas.List.{take-append-le, reverse-append}
use Rattle.std.proofs.Math.Seq.{take-length}
use Rattle.std.proofs.lemmas.List.Folds.{list_any-append}
use Rattle.std.proofs.lemmas.Option.{slice_get_within}
use Rattle.std.specs.Prelude.{reverse}
use Rattle.std.specs.List.{list_any, prefix_len, slice_get}
use Rattle.sk_base.specs.Talk.{Said, Taken, NoneGiven, taken, given, bytes_taken, bytes_given}
use Rattle.sk_pipe.specs.Pipe.{pipe_out}
use mathlib.Core.List.{IsPrefix}
use Rattle.sk_connection.specs.Talks.{is_not_yet, is_end, is_take, waiting, IsHeldBack, IsPatient}
use Rattle.sk_pipe.specs.Run.{IsInStep, MayFollow}

pub taken-more : (talk : List Said) (t : Said) → taken (talk ++ t ∷ []) ≡ taken talk ++ bytes_taken t
taken-more talk t = flat_map-append bytes_taken talk (t ∷ []) ∙ ap (λ l. taken talk ++ l) (append-nil (bytes_taken t))

pub given-more : (talk : List Said) (t : Said) → given (talk ++ t ∷ []) ≡ given talk ++ bytes_given t
given-more talk t = flat_map-append bytes_given talk (t ∷ []) ∙ ap (λ l. given talk ++ l) (append-nil (bytes_given t))

pub is_end-more : (talk : List Said) (t : Said) → list_any is_end (talk ++ t ∷ []) ≡ (list_any is_end talk || (is_end t || false))
is_end-more talk t = list_any-append is_end talk (t ∷ [])

-- a take of bytes ends a row of answers NotYet
pub waiting-taken : (talk : List Said) (piece : List ℕ) → waiting (talk ++ Taken piece ∷ []) ≡ 0
waiting-taken talk piece = ap (prefix_len is_not_yet) (reverse-append talk (Taken piece ∷ []))

-- a place of the longer talk is one of the shorter, or its end
place_cases : (talk : List Said) (t : Said) (k : ℕ) → k ≤ length (talk ++ t ∷ []) → ((k ≤ length talk) × (take k (talk ++ t ∷ []) ≡ take k talk)) ⊎ (take k (talk ++ t ∷ []) ≡ talk ++ t ∷ [])
place_cases talk t k h =
    let h' : k ≤ length talk + 1 = subst (λ (n : ℕ). k ≤ n) (length-append talk (t ∷ [])) h in
    elim (eq-or-lt_of_le h') [
      | inl e ↦ inr (ap (λ n. take n (talk ++ t ∷ [])) (e ∙ sym (length-append talk (t ∷ []))) ∙ take-length (talk ++ t ∷ []))
      | inr below ↦ inl (omega (arith, below), take-append-le k talk (t ∷ []) (omega (arith, below)))
    ]

slice_get-more : (xs : List Said) (x : Said) (k : ℕ) (t : Said) → slice_get (xs ++ x ∷ []) k ≡ Some t → (slice_get xs k ≡ Some t) ⊎ ((k ≡ length xs) × (x ≡ t))
slice_get-more [] x zero t h = inr (refl, (let e : Some x ≡ Some t = h in cc))
slice_get-more [] x (suc k) t h = absurd (let e : None ≡ Some t = h in cc)
slice_get-more (y ∷ xs) x zero t h = inl h
slice_get-more (y ∷ xs) x (suc k) t h = elim (slice_get-more xs x k t h) [ inl e ↦ inl e | inr p ↦ inr (ap suc p.0, p.1) ]

module _ (name : List ℕ) (step duration : ℕ) where
  pub in_step_none : IsPrefix [] (pipe_out name step duration []) → IsInStep name step duration []
  in_step_none start = record {
    prefix = λ k h. let e : k ≡ 0 = omega arith in rw e start;
    whole = λ k turn is. absurd (let e : None ≡ Some turn = is in cc);
    asks = λ k turn is. absurd (let e : None ≡ Some turn = is in cc);
    yields = λ k turn front is. absurd (let e : None ≡ Some turn = is in cc);
  }

  pub in_step_more : (talk : List Said) (t : Said) → IsInStep name step duration talk
      → IsPrefix (given (talk ++ t ∷ [])) (pipe_out name step duration (taken (talk ++ t ∷ [])))
      → (is_take t ≡ true → ((given talk ≡ pipe_out name step duration (taken talk)) ⊎ IsHeldBack talk) × MayFollow talk)
      → ((front : List Said) → talk ≡ front ++ NoneGiven ∷ [] → MayFollow talk → is_take t ≡ true)
      → IsInStep name step duration (talk ++ t ∷ [])
  in_step_more talk t before here takes yields_here = record {
    prefix = λ k h. elim (place_cases talk t k h) [
      | inl p ↦ let P : List Said → Type 0 = λ l. IsPrefix (given l) (pipe_out name step duration (taken l)) in subst P (sym p.1) (before.prefix k p.0)
      | inr e ↦ let P : List Said → Type 0 = λ l. IsPrefix (given l) (pipe_out name step duration (taken l)) in subst P (sym e) here
    ];
    whole = λ k turn is takes_here.
        let Q : List Said → Type 0 = λ l. (given l ≡ pipe_out name step duration (taken l)) ⊎ IsHeldBack l in
        elim (slice_get-more talk t k turn is) [
          | inl earlier ↦ subst Q (sym (take-append-le k talk (t ∷ []) (omega (arith, slice_get_within talk k turn earlier)))) (before.whole k turn earlier takes_here)
          | inr p ↦ subst Q (sym (ap (λ n. take n (talk ++ t ∷ [])) p.0 ∙ take-append-le (length talk) talk (t ∷ []) (omega arith) ∙ take-length talk)) (takes (ap is_take p.1 ∙ takes_here)).0
        ];
    asks = λ k turn is takes_here.
        let Q : List Said → Type 0 = λ l. MayFollow l in
        elim (slice_get-more talk t k turn is) [
          | inl earlier ↦ subst Q (sym (take-append-le k talk (t ∷ []) (omega (arith, slice_get_within talk k turn earlier)))) (before.asks k turn earlier takes_here)
          | inr p ↦ subst Q (sym (ap (λ n. take n (talk ++ t ∷ [])) p.0 ∙ take-append-le (length talk) talk (t ∷ []) (omega arith) ∙ take-length talk)) (takes (ap is_take p.1 ∙ takes_here)).1
        ];
    yields = λ k turn front is refused.
        let Q : List Said → Type 0 = λ l. MayFollow l → is_take turn ≡ true in
        elim (slice_get-more talk t k turn is) [
          | inl earlier ↦
              let same : take k (talk ++ t ∷ []) ≡ take k talk = take-append-le k talk (t ∷ []) (omega (arith, slice_get_within talk k turn earlier)) in
              subst Q (sym same) (before.yields k turn front earlier (sym same ∙ refused))
          | inr p ↦
              let same : take k (talk ++ t ∷ []) ≡ talk = ap (λ n. take n (talk ++ t ∷ [])) p.0 ∙ take-append-le (length talk) talk (t ∷ []) (omega arith) ∙ take-length talk in
              subst Q (sym same) (λ may. ap is_take (sym p.1) ∙ yields_here front (sym same ∙ refused) may)
        ];
  }

pub patient_none : IsPatient []
patient_none = λ k h. let e : k ≡ 0 = omega arith in rw e (omega arith)

pub patient_more : (talk : List Said) (t : Said) → IsPatient talk → waiting (talk ++ t ∷ []) < 1048576 → IsPatient (talk ++ t ∷ [])
patient_more talk t before here = λ k h.
    let P : List Said → Type 0 = λ l. waiting l < 1048576 in
    elim (place_cases talk t k h) [ inl p ↦ subst P (sym p.1) (before k p.0) | inr e ↦ subst P (sym e) here ]

-- nothing is held back before the first answer
pub not_held_at_start : IsHeldBack [] → ⊥
not_held_at_start h = nowhere h.0 h.1 h.2
  where
    nowhere : (front since : List Said) → [] ≡ front ++ NoneGiven ∷ since → ⊥
    nowhere [] since e = cc
    nowhere (x ∷ front) since e = cc
