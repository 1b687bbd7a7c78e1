-- What a header brings once a response that answers was kept.
use Rattle.std.proofs.Common.{◌≡◌, ℕ, Bool, true, false, cond, List, [], ◌∷◌, ◌++◌, ap, sym, ◌∙◌, rules}
use Rattle.std.specs.Prelude.{IsTrue}
use Rattle.sk_msg.specs.Rules.{is_sent}
use Rattle.sk_msg.specs.declared.bus.LinResponse.{LinResponse}
use Rattle.sk_lin.specs.declared.kept.Kept.{Kept}
use Rattle.sk_lin.specs.Kept.{own, is_before, is_in_place_of, keep}
use Rattle.sk_lin.specs.Lin.{responds_to, responders, frame_of, answered}

-- one stands among these
abbrev Among : Kept → List Kept → Type 0
Among new kept = (front : List Kept) × (back : List Kept) × (kept ≡ front ++ new ∷ back)

first_of : (id : ℕ) (new : Kept) (kept : List Kept) → responds_to id new ≡ true → Among new (responders id (new ∷ kept))
first_of id new kept responds = ([], responders id kept, ap (λ b. cond b (new ∷ responders id kept) (responders id kept)) responds)

behind : (b : Bool) (old new : Kept) (kept : List Kept) → Among new kept → Among new (cond b (old ∷ kept) kept)
behind true old new kept among = (old ∷ among.0, among.1, ap (λ rest. old ∷ rest) among.2)
behind false old new kept among = among

pub keep_among : (id : ℕ) (new : Kept) (kept : List Kept) → responds_to id new ≡ true → Among new (responders id (keep new kept))
keep_among id new [] responds = first_of id new [] responds
keep_among id new (old ∷ kept) responds = split (is_before old new) (is_in_place_of old new) (keep_among id new kept responds)
  where
    split : (before same : Bool) → Among new (responders id (keep new kept)) → Among new (responders id (cond before (old ∷ keep new kept) (cond same (new ∷ kept) (new ∷ old ∷ kept))))
    split true same rest = behind (responds_to id old) old new (responders id (keep new kept)) rest
    split false true rest = first_of id new kept responds
    split false false rest = first_of id new (old ∷ kept) responds

not_nobody : (new : Kept) (kept : List Kept) → Among new kept → kept ≡ [] → ⊥
not_nobody new kept among none = split among.0 (sym among.2 ∙ none)
  where
    split : (front : List Kept) → front ++ new ∷ among.1 ≡ [] → ⊥
    split [] is = absurd cc
    split (one ∷ front) is = absurd cc

the_one : (new one : Kept) (kept : List Kept) → Among new kept → kept ≡ one ∷ [] → kept ≡ new ∷ []
the_one new one kept among is = is ∙ split among.0 (sym among.2 ∙ is)
  where
    longer : (front back : List Kept) → front ++ new ∷ back ≡ [] → ⊥
    longer [] back is = absurd cc
    longer (x ∷ front) back is = absurd cc

    split : (front : List Kept) → front ++ new ∷ among.1 ≡ one ∷ [] → one ∷ [] ≡ new ∷ []
    split [] is = let same : one ≡ new = cc in ap (λ x. x ∷ []) same
    split (x ∷ front) is = absurd (longer front among.1 cc)

own_responds : (response : LinResponse) → IsTrue (is_sent response.mode) → responds_to response.id (own response) ≡ true
own_responds response sent = search rules

abbrev AfterKeep : LinResponse → List Kept → List Kept
AfterKeep response kept = responders response.id (keep (own response) kept)

among : (response : LinResponse) (kept : List Kept) → IsTrue (is_sent response.mode) → Among (own response) (AfterKeep response kept)
among response kept sent = keep_among response.id (own response) kept (own_responds response sent)

-- ## By those that answer now, which are those that answer once it was kept

-- nobody can't be
pub sent_nobody : (response : LinResponse) (kept now : List Kept) → IsTrue (is_sent response.mode) → responders response.id now ≡ AfterKeep response kept
    → responders response.id now ≡ [] → frame_of response.id (AfterKeep response kept) ≡ answered response.id response
sent_nobody response kept now sent is none = absurd (not_nobody _ _ (among response kept sent) (sym is ∙ none))

pub sent_one : (response : LinResponse) (kept now : List Kept) (one : Kept) → IsTrue (is_sent response.mode) → responders response.id now ≡ AfterKeep response kept
    → responders response.id now ≡ one ∷ [] → frame_of response.id (AfterKeep response kept) ≡ answered response.id response
sent_one response kept now one sent is alone =
    ap (frame_of response.id) (the_one _ one _ (among response kept sent) (sym is ∙ alone))

pub sent_several : (response : LinResponse) (kept now : List Kept) (one other : Kept) (more : List Kept) → responders response.id now ≡ AfterKeep response kept
    → responders response.id now ≡ one ∷ other ∷ more → frame_of response.id (AfterKeep response kept) ≡ frame_of response.id (one ∷ other ∷ more)
sent_several response kept now one other more is several = ap (frame_of response.id) (sym is ∙ several)
