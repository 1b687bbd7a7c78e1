-- More bytes taken only add to what is written.
use Rattle.std.proofs.Common.{◌≡◌, ◌≤◌, ◌+◌, ◌*◌, ℕ, zero, suc, Bool, true, false, ◌||◌, ◌&&◌, cond, Option, Some, None, List, [], ◌∷◌, ◌++◌, refl, sym, ◌∙◌, ap, subst, arith, append_assoc, append-nil, ltb}
use Rattle.std.proofs.lemmas.Bool.Decides.{nat_tests}
use Rattle.std.proofs.lemmas.List.Folds.{list_any-append}
use Rattle.std.specs.List.{list_any}
use Rattle.sk_wire.specs.Parts.{messages}
use Rattle.sk_pipe.specs.Frames.{all_steps, frames, due_after}
use mathlib.Core.List.{IsPrefix}
use Rattle.sk_pipe.specs.Pipe.{is_passed_over, is_hello, is_unsynchronised_hello, is_leave, announces, is_out_of_order, orderly, end_among, heard, may_begin, count_below, steps_begun, output, pipe_out}
use Rattle.sk_msg.specs.declared.content.Content.{Content}
use Rattle.sk_pipe.specs.declared.peer.PeerEnding.{PeerEnding}
use Rattle.sk_pipe.proofs.CountLaws.{count_below-upto, times_below}
use Rattle.sk_pipe.proofs.HearingLaws.{orderly-append, goes_on}
use Rattle.sk_pipe.proofs.FrameLaws.{frames-prefix, output-frames}

pub prefix_refl : (xs : List ℕ) → IsPrefix xs xs
prefix_refl xs = ([], append-nil xs)

pub prefix_trans : (xs ys zs : List ℕ) → IsPrefix xs ys → IsPrefix ys zs → IsPrefix xs zs
prefix_trans xs ys zs p q = (p.0 ++ q.0, sym (append_assoc xs p.0 q.0) ∙ ap (λ l. l ++ q.0) p.1 ∙ q.1)

-- the messages that count only grow
orderly-front : (before ms : List Content) → (more : List Content) × (before ++ more ≡ orderly before ms)
orderly-front before [] = ([], append-nil before)
orderly-front before (m ∷ ms) = by_case (is_passed_over m) (is_out_of_order before m) (is_leave m) (orderly-front before ms) (orderly-front (before ++ m ∷ []) ms)
  where
    by_case : (o b l : Bool) → ((more : List Content) × (before ++ more ≡ orderly before ms))
        → ((more : List Content) × ((before ++ m ∷ []) ++ more ≡ orderly (before ++ m ∷ []) ms))
        → (more : List Content) × (before ++ more ≡ cond o (orderly before ms) (cond b before (cond l (before ++ m ∷ []) (orderly (before ++ m ∷ []) ms))))
    by_case true b l p q = p
    by_case false true l p q = ([], append-nil before)
    by_case false false true p q = (m ∷ [], refl)
    by_case false false false p q = (m ∷ q.0, sym (append_assoc before (m ∷ []) q.0) ∙ q.1)

goes_on-front : (o : Option PeerEnding) (before ms : List Content) → (more : List Content) × (before ++ more ≡ goes_on o before ms)
goes_on-front None before ms = orderly-front before ms
goes_on-front (Some ending) before ms = ([], append-nil before)

-- where bytes have more messages, more of them count
pub heard-front : (b c : List ℕ) → IsPrefix (messages b) (messages c) → (more : List Content) × (heard b ++ more ≡ heard c)
heard-front b c more =
    let front = goes_on-front (end_among [] (messages b)) (heard b) more.0 in
    (front.0, front.1 ∙ sym (orderly-append [] (messages b) more.0) ∙ ap (orderly []) more.1)

-- what may begin may begin later too
may_begin-more : (ms rest : List Content) (t : ℕ) → may_begin ms t ≡ true → may_begin (ms ++ rest) t ≡ true
may_begin-more ms rest t h =
    rw (list_any-append is_hello ms rest, list_any-append is_unsynchronised_hello ms rest, list_any-append is_leave ms rest, list_any-append (announces t) ms rest)
    (more (list_any is_hello ms) (list_any is_unsynchronised_hello ms) (list_any is_leave ms) (list_any (announces t) ms) _ _ _ _ h)
  where
    more : (a b c d x y z w : Bool) → (a && (b || c || d)) ≡ true → ((a || x) && ((b || y) || (c || z) || (d || w))) ≡ true
    more a b c d x y z w h = grind arith

count_below-le : (p q : ℕ → Bool) (n : ℕ) → ((i : ℕ) → p i ≡ true → q i ≡ true) → count_below p n ≤ count_below q n
count_below-le p q zero h = omega arith
count_below-le p q (suc n) h = let before = count_below-le p q n h in by_case (p n) (q n) (h n) before
  where
    by_case : (a b : Bool) → (a ≡ true → b ≡ true) → count_below p n ≤ count_below q n → count_below p n + cond a 1 0 ≤ count_below q n + cond b 1 0
    by_case true true h k = omega arith
    by_case true false h k = absurd (let e = h refl in cc)
    by_case false true h k = omega arith
    by_case false false h k = omega arith

pub steps_begun-more : (step duration : ℕ) (ms rest : List Content) → steps_begun step duration ms ≤ steps_begun step duration (ms ++ rest)
steps_begun-more step duration ms rest =
    count_below-le (λ i. ltb (i * step) duration && may_begin ms (i * step)) (λ i. ltb (i * step) duration && may_begin (ms ++ rest) (i * step)) duration
    (λ i h. both (ltb (i * step) duration) (may_begin ms (i * step)) (may_begin (ms ++ rest) (i * step)) (may_begin-more ms rest (i * step)) h)
  where
    both : (a b c : Bool) → (b ≡ true → c ≡ true) → (a && b) ≡ true → (a && c) ≡ true
    both a b c k h = grind arith

pub steps_begun-le : (step duration : ℕ) (ms : List Content) → 1 ≤ step → steps_begun step duration ms ≤ all_steps step duration
steps_begun-le step duration ms positive =
    let all : count_below (λ i. ltb (i * step) duration) duration ≡ _ = count_below-upto (λ i. ltb (i * step) duration) (all_steps step duration) duration (λ i _. times_below step duration i positive) in
    let below : steps_begun step duration ms ≤ count_below (λ i. ltb (i * step) duration) duration
    = count_below-le _ (λ i. ltb (i * step) duration) duration (λ i h. left (ltb (i * step) duration) (may_begin ms (i * step)) h) in
    omega (arith, all, below)
  where
    left : (a b : Bool) → (a && b) ≡ true → a ≡ true
    left a b h = grind arith

-- what is written is the messages that are due
pub output-due : (name : List ℕ) (step duration n : ℕ) → 1 ≤ step → n ≤ all_steps step duration
    → output name step duration n ≡ frames name step (all_steps step duration) (due_after n (all_steps step duration))
output-due name step duration n positive small = output-frames name step duration (all_steps step duration) n small (times_below step duration n positive)

pub due-le : (n m total : ℕ) → n ≤ m → m ≤ total → due_after n total ≤ due_after m total
due-le n m total h k = grind (arith, nat_tests)

-- more messages make more of it
pub pipe_out-monotone : (name : List ℕ) (step duration : ℕ) (b c : List ℕ) → 1 ≤ step → IsPrefix (messages b) (messages c) → IsPrefix (pipe_out name step duration b) (pipe_out name step duration c)
pipe_out-monotone name step duration b c positive grows =
    let total = all_steps step duration in
    let front = heard-front b c grows in
    let n = steps_begun step duration (heard b) in
    let m = steps_begun step duration (heard c) in
    let more : n ≤ m = subst (λ (l : List Content). n ≤ steps_begun step duration l) front.1 (steps_begun-more step duration (heard b) front.0) in
    let small : m ≤ total = steps_begun-le step duration (heard c) positive in
    rw (output-due name step duration n positive (omega (arith, more, small)), output-due name step duration m positive small)
    (frames-prefix name step total (due_after n total) (due_after m total) (due-le n m total more small))
