-- A talk that goes on by one answer, and bytes that move to the front.
use Rattle.std.proofs.Common.{◌≡◌, ◌+◌, ◌-◌, ℕ, Bool, true, false, ◌||◌, cond, List, [], ◌∷◌, ◌++◌, length, take, drop, refl, sym, ◌∙◌, ap, append_assoc, append-nil}
use Rattle.std.proofs.lemmas.Grind.{flat_map-append}
use Rattle.std.proofs.lemmas.List.{reverse-append, length-drop, take_at}
use Rattle.std.proofs.lemmas.List.Edits.{paste_all}
use Rattle.std.proofs.lemmas.List.Folds.{list_any-append}
use Rattle.std.specs.Prelude.{reverse}
use Rattle.std.specs.List.{list_any, prefix_len, copy_within}
use Rattle.sk_base.specs.Talk.{Said, NoneGiven, taken, given, bytes_taken, bytes_given}
use Rattle.sk_connection.specs.Talks.{is_not_yet, is_end, is_take, waiting, IsHeldBack}

pub taken-more : (talk : List Said) (t : Said) → taken (talk ++ t ∷ []) ≡ taken talk ++ bytes_taken t
taken-more talk t = flat_map-append bytes_taken talk (t ∷ []) ∙ ap (λ l. taken talk ++ l) (append-nil (bytes_taken t))

pub given-more : (talk : List Said) (t : Said) → given (talk ++ t ∷ []) ≡ given talk ++ bytes_given t
given-more talk t = flat_map-append bytes_given talk (t ∷ []) ∙ ap (λ l. given talk ++ l) (append-nil (bytes_given t))

pub waiting-more : (talk : List Said) (t : Said) → waiting (talk ++ t ∷ []) ≡ cond (is_not_yet t) (1 + waiting talk) 0
waiting-more talk t = ap (prefix_len is_not_yet) (reverse-append talk (t ∷ []))

pub is_end-more : (talk : List Said) (t : Said) → list_any is_end (talk ++ t ∷ []) ≡ (list_any is_end talk || (is_end t || false))
is_end-more talk t = list_any-append is_end talk (t ∷ [])

-- what is held back after a give
pub held_now : (talk : List Said) → IsHeldBack (talk ++ NoneGiven ∷ [])
held_now talk = (talk, [], refl, refl)

pub held_still : (talk : List Said) (t : Said) → is_take t ≡ false → IsHeldBack talk → IsHeldBack (talk ++ t ∷ [])
held_still talk t gives h = (
  h.0,
  h.1 ++ t ∷ [],
  ap (λ l. l ++ t ∷ []) h.2 ∙ append_assoc h.0 (NoneGiven ∷ h.1) (t ∷ []),
  list_any-append is_take h.1 (t ∷ []) ∙ ap (λ b. b || (is_take t || false)) h.3 ∙ ap (λ b. b || false) gives,
)

-- the last answer
last_same : (xs ys : List Said) (x y : Said) → xs ++ x ∷ [] ≡ ys ++ y ∷ [] → x ≡ y
last_same xs ys x y e =
    let back : x ∷ reverse xs ≡ y ∷ reverse ys = sym (reverse-append xs (x ∷ [])) ∙ ap reverse e ∙ reverse-append ys (y ∷ []) in
    cc

-- a talk that ends otherwise doesn't end with a refused give
pub not_refused : (talk : List Said) (t : Said) (b : Bool) → (t ≡ NoneGiven → ⊥) → (front : List Said) → talk ++ t ∷ [] ≡ front ++ NoneGiven ∷ [] → b ≡ true
not_refused talk t b apart front e = absurd (apart (last_same talk front t NoneGiven e))

pub none_refused : (front : List Said) → [] ≡ front ++ NoneGiven ∷ [] → ⊥
none_refused [] e = cc
none_refused (x ∷ front) e = cc

-- the bytes behind the first ones, moved to the front
pub moved : (xs : List ℕ) (count end left : ℕ) → end ≡ length xs → left ≡ length xs - count → take left (copy_within xs count end 0) ≡ drop count xs
moved xs count end left whole rest =
    let n : end - count ≡ length (drop count xs) = ap (λ k. k - count) whole ∙ sym (length-drop count xs) in
    let l : left ≡ length (drop count xs) = rest ∙ sym (length-drop count xs) in
    ap (take left) (paste_all xs 0 (drop count xs) (end - count) n) ∙ take_at (drop count xs) (drop (0 + (end - count)) xs) left (sym l)
