-- What stands at the places of the peers.
use Rattle.std.proofs.Common.{Bool, true, false, eqb, ◌≡◌, ◌∙◌, ℕ, zero, suc, List, [], ◌∷◌, ◌++◌, map, Option, Some, None, slice_get, slice_index_or, refl, sym, ap, subst}
use Rattle.std.specs.Option.{option_map}
use Rattle.std.proofs.lemmas.Bool.{eqb-true, eqb-false}
use Rattle.std.proofs.lemmas.List.{map-append}
use Rattle.std.proofs.lemmas.Option.{slice_get-map}
use Rattle.sk_msg.specs.declared.service.Service.{Service}
use Rattle.sk_msg.specs.Matching.{matching}
use Rattle.sk_pubsub.specs.Announcing.{IsAdded, ids, receivers_of}
use Rattle.sk_pubsub.specs.Places.{AnnouncedValue, PeerValue, services_of, at_place, HasOneMore}
use Rattle.sk_pubsub.specs.Receivers.{AreMatched}

-- what a peer announced, read before or after what is kept with it is left out
pub services_at : (places : List PeerValue) (p : ℕ) → slice_index_or (map services_of places) p [] ≡ services_of (at_place places p)
services_at [] p = refl
services_at (x ∷ places) zero = refl
services_at (x ∷ places) (suc p) = services_at places p

-- the service of a number
pub service_at : (places : List PeerValue) (p id : ℕ) → slice_get (slice_index_or (map services_of places) p []) id ≡ option_map (λ a. a.service) (slice_get (at_place places p).announced id)
service_at places p id =
    ap (λ (services : List Service). slice_get services id) (services_at places p)
    ∙ slice_get-map (λ (a : AnnouncedValue). a.service) (at_place places p).announced id

pub is_service : (places : List PeerValue) (p id : ℕ) (a : Option AnnouncedValue) → a ≡ slice_get (at_place places p).announced id
    → slice_get (slice_index_or (map services_of places) p []) id ≡ option_map (λ a. a.service) a
is_service places p id a found = service_at places p id ∙ ap (option_map (λ (a : AnnouncedValue). a.service)) (sym found)

-- one of these matches as it is kept
matched_one : (own : List Service) (announced : List AnnouncedValue) (id : ℕ) (a : AnnouncedValue) → AreMatched own announced → Some a ≡ slice_get announced id
    → a.receivers ≡ ids (matching own a.service)
matched_one own [] id a matched found = absurd cc
matched_one own (x ∷ announced) zero a matched found =
    let is : x ≡ a = cc in
    subst (λ (b : AnnouncedValue). b.receivers ≡ ids (matching own b.service)) is matched.0
matched_one own (x ∷ announced) (suc id) a matched found = matched_one own announced id a matched.1 found

-- the numbers that are kept are those of the own services that match
pub receivers_kept : (own : List Service) (places : List PeerValue) (p id : ℕ) (a : AnnouncedValue) → AreMatched own (at_place places p).announced
    → Some a ≡ slice_get (at_place places p).announced id → a.receivers ≡ receivers_of own (slice_get (slice_index_or (map services_of places) p []) id)
receivers_kept own places p id a matched found =
    matched_one own (at_place places p).announced id a matched found
    ∙ sym (ap (receivers_of own) (is_service places p id (Some a) found))

pub no_receivers : (own : List Service) (places : List PeerValue) (p id : ℕ) → None ≡ slice_get (at_place places p).announced id
    → [] ≡ receivers_of own (slice_get (slice_index_or (map services_of places) p []) id)
no_receivers own places p id found = sym (ap (receivers_of own) (is_service places p id None found))

-- one more matches as it is kept
pub matched_more : (own : List Service) (announced : List AnnouncedValue) (a : AnnouncedValue) → AreMatched own announced → a.receivers ≡ ids (matching own a.service)
    → AreMatched own (announced ++ a ∷ [])
matched_more own [] a matched is = (is, tt)
matched_more own (x ∷ announced) a matched is = (matched.0, matched_more own announced a matched.1 is)

-- ## After one more service

module _ (peer : ℕ) (a : AnnouncedValue) (marks : List Bool) (old new : List PeerValue) (added : HasOneMore peer a marks old new) where
  -- what holds of each peer and of this one afterwards holds of each afterwards
  pub each_after : (P : PeerValue → Type 0) → ((p : ℕ) → P (at_place old p)) → P (record { announced = (at_place old peer).announced ++ a ∷ []; matched = marks }) → (p : ℕ) → P (at_place new p)
  each_after P before here p = split (eqb p peer) refl
    where
      split : (b : Bool) → eqb p peer ≡ b → P (at_place new p)
      split true same = subst (λ (q : ℕ). P (at_place new q)) (sym (eqb-true p peer same)) (subst P (sym added.last) here)
      split false other = subst P (sym (added.others p (eqb-false p peer other))) (before p)

  -- each stands with those that match it
  pub matched_added : (own : List Service) → a.receivers ≡ ids (matching own a.service) → ((p : ℕ) → AreMatched own (at_place old p).announced)
      → (p : ℕ) → AreMatched own (at_place new p).announced
  matched_added own is matched =
      each_after (λ one. AreMatched own one.announced) matched (matched_more own (at_place old peer).announced a (matched peer) is)

  -- and it is the last one of its peer
  pub is_added : (own : List Service) (service : Service) → a.service ≡ service
      → IsAdded peer service (record { own = own; announced = map services_of old }) (record { own = own; announced = map services_of new })
  is_added own service is = record {
    own = refl;
    last =
        services_at new peer
        ∙ ap services_of added.last
        ∙ map-append (λ (a : AnnouncedValue). a.service) (at_place old peer).announced (a ∷ [])
        ∙ (λ i. sym (services_at old peer) i ++ is i ∷ []);
    others = λ other apart. services_at new other ∙ ap services_of (added.others other apart) ∙ sym (services_at old other);
  }
