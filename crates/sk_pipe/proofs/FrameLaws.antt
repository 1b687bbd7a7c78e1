-- What is written, cut into its messages.
use Rattle.std.proofs.Common.{◌≡◌, ◌≤◌, ◌*◌, ℕ, zero, suc, Bool, true, false, cond, List, [], ◌++◌, refl, sym, ◌∙◌, ap, arith, append_assoc, append-nil, ltb, leb, eq-or-lt_of_le, inl, inr, zero-mul}
use Rattle.std.proofs.Math.Dec.{leb-zero}
use Rattle.std.proofs.lemmas.Bool.Decides.{nat_tests}
use Rattle.sk_pipe.specs.Pipe.{hello, next_step, leave}
use Rattle.sk_pipe.specs.Frames.{frame, frames, due_after}
use Rattle.sk_pipe.specs.Pipe.{announcements, output}
use mathlib.Core.List.{IsPrefix}

pub frames-prefix : (name : List ℕ) (step total j k : ℕ) → j ≤ k → IsPrefix (frames name step total j) (frames name step total k)
frames-prefix name step total j zero h = ([], append-nil _ ∙ ap (frames name step total) (let z : j ≡ 0 = omega arith in z))
frames-prefix name step total j (suc k) h =
    elim (eq-or-lt_of_le h) [
      | inl e ↦ ([], append-nil _ ∙ ap (frames name step total) e)
      | inr below ↦
          let before = frames-prefix name step total j k (omega (arith, below)) in
          (before.0 ++ frame name step total k, sym (append_assoc _ before.0 _) ∙ ap (λ l. l ++ frame name step total k) before.1)
    ]

pub frames-announcements : (name : List ℕ) (step total n : ℕ) → n ≤ total → frames name step total (suc (suc n)) ≡ hello name ++ announcements step n
frames-announcements name step total zero h =
    ap (λ b. hello name ++ cond b (next_step (0 * step) step) leave) (leb-zero total)
    ∙ ap (λ t. hello name ++ next_step t step) (zero-mul step)
frames-announcements name step total (suc n) h =
    let before = frames-announcements name step total n (omega (arith, h)) in
    let there : leb (suc n) total ≡ true = grind (arith, nat_tests, h) in
    ap (λ l. l ++ cond (leb (suc n) total) (next_step (suc n * step) step) leave) before
    ∙ ap (λ b. (hello name ++ announcements step n) ++ cond b (next_step (suc n * step) step) leave) there
    ∙ append_assoc (hello name) (announcements step n) (next_step (suc n * step) step)

pub output-frames : (name : List ℕ) (step duration total n : ℕ) → n ≤ total → ltb (n * step) duration ≡ ltb n total
    → output name step duration n ≡ frames name step total (due_after n total)
output-frames name step duration total n h e =
    let base : frames name step total (suc (suc n)) ≡ hello name ++ announcements step n = frames-announcements name step total n h in
    let tail : output name step duration n ≡ frames name step total (suc (suc n)) ++ cond (ltb n total) [] leave
    = ap (λ b. hello name ++ announcements step n ++ cond b [] leave) e ∙ ap (λ l. l ++ cond (ltb n total) [] leave) (sym base) in
    tail ∙ by_case (ltb n total) refl
  where
    by_case : (b : Bool) → ltb n total ≡ b → frames name step total (suc (suc n)) ++ cond b [] leave ≡ frames name step total (cond b (suc (suc n)) (suc (suc (suc n))))
    by_case true t = append-nil _
    by_case false t = ap (λ b. frames name step total (suc (suc n)) ++ cond b (next_step (suc n * step) step) leave) (sym t)
