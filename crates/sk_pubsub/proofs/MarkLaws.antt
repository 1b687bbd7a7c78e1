-- Which own services match something that a peer announced.
use Rattle.std.proofs.Common.{Bool, true, false, ◌≡◌, ◌∙◌, ℕ, zero, suc, ◌+◌, List, [], ◌∷◌, ◌++◌, map, Option, Some, None, slice_get, slice_index_or, refl, sym, ap, arith}
use Rattle.std.specs.Prelude.{IsTrue, ◌||◌, ◌==◌}
use Rattle.std.specs.List.{list_any}
use Rattle.std.proofs.lemmas.Bool.{and_parts, eqb-true}
use Rattle.std.proofs.lemmas.List.{map-append}
use Rattle.std.proofs.lemmas.List.Folds.{list_any-append}
use Rattle.sk_msg.specs.Matching.{match_services}
use Rattle.sk_msg.specs.declared.service.Service.{Service}
use Rattle.sk_pubsub.specs.Announcing.{are_numbered, has_match}
use Rattle.sk_pubsub.specs.Places.{AnnouncedValue, PeerValue, services_of, at_place, matched_after, HasOneMore}
use Rattle.sk_pubsub.specs.Receivers.{IsMarked}
use Rattle.sk_pubsub.proofs.PlaceLaws.{each_after, services_at}

-- the mark of one own service: the one that it had, or that it matches the new service
abbrev mark_of : List Bool → ℕ → Service → Option Service → Bool
mark_of marks number other None = false
mark_of marks number other (Some s) = slice_index_or marks number false || match_services s other

mark_at : (next : ℕ) (own : List Service) (marks : List Bool) (other : Service) (number : ℕ) → IsTrue (are_numbered next own)
    → slice_index_or (matched_after own marks other) number false ≡ mark_of marks (next + number) other (slice_get own number)
mark_at next [] marks other number numbered = refl
mark_at next (s ∷ own) marks other zero numbered =
    let id = eqb-true s.id next (and_parts (s.id == next) (are_numbered (next + 1) own) numbered).0 in
    let here : s.id ≡ next + 0 = id ∙ omega arith in
    ap (λ n. slice_index_or marks n false || match_services s other) here
mark_at next (s ∷ own) marks other (suc number) numbered =
    let there : next + 1 + number ≡ next + suc number = omega arith in
    mark_at (next + 1) own marks other number (and_parts (s.id == next) (are_numbered (next + 1) own) numbered).1
    ∙ ap (λ n. mark_of marks n other (slice_get own number)) there

or_false : (b : Bool) → (b || false) ≡ b
or_false true = refl
or_false false = refl

-- it matches one of those before, or the new one
mark_after : (own : Option Service) (peer : PeerValue) (number : ℕ) (other : Service) → slice_index_or peer.matched number false ≡ has_match (services_of peer) own
    → mark_of peer.matched number other own ≡ has_match (services_of peer ++ other ∷ []) own
mark_after None peer number other is = refl
mark_after (Some s) peer number other is =
    ap (λ b. b || match_services s other) is
    ∙ ap (λ b. list_any (match_services s) (services_of peer) || b) (sym (or_false (match_services s other)))
    ∙ sym (list_any-append (match_services s) (services_of peer) (other ∷ []))

-- no mark where nothing was announced
pub nothing_marked : (own : List Service) (number : ℕ) → false ≡ has_match [] (slice_get own number)
nothing_marked own number = on (slice_get own number)
  where
    on : (s : Option Service) → false ≡ has_match [] s
    on None = refl
    on (Some s) = refl

pub marked_added : (own : List Service) (peer : ℕ) (a : AnnouncedValue) (marks : List Bool) (old new : List PeerValue) → IsTrue (are_numbered 0 own)
    → marks ≡ matched_after own (at_place old peer).matched a.service → ((p : ℕ) → IsMarked own (at_place old p)) → HasOneMore peer a marks old new
    → (p : ℕ) → IsMarked own (at_place new p)
marked_added own peer a marks old new numbered is marked added = each_after peer a marks old new added (IsMarked own) marked (λ number.
    ap (λ list. slice_index_or list number false) is
    ∙ mark_at 0 own (at_place old peer).matched a.service number numbered
    ∙ ap (λ n. mark_of (at_place old peer).matched n a.service (slice_get own number)) (omega arith)
    ∙ mark_after (slice_get own number) (at_place old peer) number a.service (marked peer number)
    ∙ ap (λ services. has_match services (slice_get own number)) (sym (map-append (λ (x : AnnouncedValue). x.service) (at_place old peer).announced (a ∷ []))))

-- what is asked of the places is asked of what was announced
pub is_marked : (own : List Service) (places : List PeerValue) (p number : ℕ) → IsMarked own (at_place places p)
    → slice_index_or (at_place places p).matched number false ≡ has_match (slice_index_or (map services_of places) p []) (slice_get own number)
is_marked own places p number marked = marked number ∙ ap (λ services. has_match services (slice_get own number)) (sym (services_at places p))
