-- What is found by a name among the services and the variables of a participant.
use Rattle.std.proofs.Common.{◌≡◌, ℕ, ◌+◌, ◌<◌, ◌≤◌, Bool, true, false, cond, List, [], ◌∷◌, ◌++◌, length, length-append, Some, None, refl, sym, subst, ◌∙◌, arith}
use Rattle.std.specs.Prelude.{◌&&◌, ◌||◌, ◌==◌, not, option_map, if◌then◌else◌}
use Rattle.std.specs.List.{list_any}
use Rattle.std.specs.Str.{bytes_eq}
use Rattle.std.proofs.lemmas.Bool.{and_parts, and_from, or_left, or_right, or_from, lt-ltb, and_left, both_ways, and_right, eqb-true, eq-eqb, ne_eqb, not-true}
use Rattle.std.proofs.lemmas.List.Folds.{list_any-append}
use Rattle.std.proofs.lemmas.List.Quantifiers.{position-Some}
use Rattle.std.proofs.lemmas.Slice.Eq.{bytes_eq-Decides}
use Rattle.sk_msg.specs.Each.{each_after}
use Rattle.sk_msg.specs.declared.service.Service.{Service}
use Rattle.sk_msg.specs.declared.service.ServiceKind.{ServiceKind}
use Rattle.sk_msg.specs.declared.service.ServiceKind.TheVariants.{Publisher, Server}
use Rattle.sk_config.specs.Applied.{is_kind}
use Rattle.sk_rules.specs.Places.{ScopeValue, is_next_own, are_own, find_one, find_service, service_of, receiver_of, server_of, variable_of}
use Rattle.sk_rules.specs.Scripts.{is_own, serves, receives, is_variable}

-- ---- what is found is there

-- a service that is found passes the test
found_own : (fits : ServiceKind → Bool) (services : List Service) (name : List ℕ) (id : ℕ) → find_service fits services name ≡ Some id → is_own fits services id ≡ true
found_own fits [] name id e = absurd cc
found_own fits (s ∷ ss) name id e = by_test (fits s.kind && bytes_eq s.name name) refl e (found_own fits ss name id)
  where
    by_test : (b : Bool) → (fits s.kind && bytes_eq s.name name) ≡ b → option_map (λ (x : Service). x.id) (cond b (Some s) (find_one fits ss name)) ≡ Some id
        → (find_service fits ss name ≡ Some id → is_own fits ss id ≡ true) → is_own fits (s ∷ ss) id ≡ true
    by_test true t e rest = or_left _ _ (and_from _ _ (eq-eqb s.id id (cc)) (and_parts _ _ t).0)
    by_test false t e rest = or_right _ _ (rest e)

-- the number of a service of a kind serves that kind
pub service_serves : (scope : ScopeValue) (kind : ServiceKind) (name : List ℕ) (id : ℕ) → service_of scope kind name ≡ Some id → serves scope kind id ≡ true
unfolding service_of serves
service_serves scope kind name id e = found_own (λ one. is_kind one kind) scope.services name id e

-- that of a receiver receives
pub receiver_receives : (scope : ScopeValue) (name : List ℕ) (id : ℕ) → receiver_of scope name ≡ Some id → receives scope id ≡ true
unfolding receiver_of receives
receiver_receives scope name id e = found_own (λ one. not (is_kind one Publisher)) scope.services name id e

-- a variable that is found has a place
pub variable_is : (scope : ScopeValue) (name : List ℕ) (place : ℕ) → variable_of scope name ≡ Some place → is_variable scope place ≡ true
unfolding variable_of is_variable
variable_is scope name place e = lt-ltb place (length scope.vars) (position-Some (λ var. bytes_eq var.name name) scope.vars place (record { name = []; value = 0 }) e).0

-- ---- numbers are places, and names are those of one service

same_bytes : (xs ys : List ℕ) → bytes_eq xs ys ≡ true → xs ≡ ys
same_bytes xs ys t = (bytes_eq-Decides xs ys).0 t

module _ (before : List Service) (s : Service) (ss : List Service) (own : each_after is_next_own before (s ∷ ss) ≡ true) where
  -- its number is its place
  own_place : s.id ≡ length before
  unfolding is_next_own
  own_place = eqb-true s.id (length before) (and_parts _ _ (and_parts _ _ own).0).0

  -- its name is new
  own_name : list_any (λ other. bytes_eq other.name s.name) before ≡ false
  unfolding is_next_own
  own_name = not-true _ (and_parts _ _ (and_parts _ _ own).0).1

  -- and so with those behind it
  own_rest : each_after is_next_own (before ++ s ∷ []) ss ≡ true
  own_rest = (and_parts _ _ own).1

-- no number of one before is that of one of these
not_later : (fits : ServiceKind → Bool) (before ss : List Service) (id : ℕ) → each_after is_next_own before ss ≡ true → id < length before → is_own fits ss id ≡ false
not_later fits before [] id own small = refl
not_later fits before (s ∷ ss) id own small =
    let here = own_place before s ss own in
    or_from _ _ (and_left _ _ (ne_eqb s.id id (λ same. absurd (omega arith))))
    (not_later fits (before ++ s ∷ []) ss id (own_rest before s ss own) (omega (arith, length-append before (s ∷ []))))

-- the number of one of these is none before
found_later : (fits : ServiceKind → Bool) (before ss : List Service) (name : List ℕ) (id : ℕ) → each_after is_next_own before ss ≡ true → find_service fits ss name ≡ Some id → length before ≤ id
found_later fits before [] name id own e = absurd cc
found_later fits before (s ∷ ss) name id own e =
    by_test (fits s.kind && bytes_eq s.name name) e (own_place before s ss own)
    (λ there. let later = found_later fits (before ++ s ∷ []) ss name id (own_rest before s ss own) there in omega (arith, later, length-append before (s ∷ [])))
  where
    by_test : (b : Bool) → option_map (λ (x : Service). x.id) (cond b (Some s) (find_one fits ss name)) ≡ Some id
        → s.id ≡ length before → (find_service fits ss name ≡ Some id → length before ≤ id) → length before ≤ id
    by_test true e here rest = let same : s.id ≡ id = cc in omega arith
    by_test false e here rest = rest e

-- a name of one before is none of these
named_before : (fits : ServiceKind → Bool) (before ss : List Service) (name : List ℕ) → each_after is_next_own before ss ≡ true → list_any (λ other. bytes_eq other.name name) before ≡ true → find_service fits ss name ≡ None
named_before fits before [] name own had = refl
named_before fits before (s ∷ ss) name own had =
    by_test (fits s.kind) (bytes_eq s.name name) refl
    (named_before fits (before ++ s ∷ []) ss name (own_rest before s ss own) (list_any-append (λ other. bytes_eq other.name name) before (s ∷ []) ∙ or_left _ _ had))
  where
    by_test : (a b : Bool) → bytes_eq s.name name ≡ b → find_service fits ss name ≡ None → option_map (λ (x : Service). x.id) (cond (a && b) (Some s) (find_one fits ss name)) ≡ None
    by_test true true t rest = absurd (both_ways _ (own_name before s ss own) (subst (λ (n : List ℕ). list_any (λ (other : Service). bytes_eq other.name n) before ≡ true) (sym (same_bytes _ _ t)) had))
    by_test true false t rest = rest
    by_test false b t rest = rest

-- kinds that receive, and that of servers
abbrev is_receiver : ServiceKind → Bool
is_receiver one = not (is_kind one Publisher)

abbrev is_server : ServiceKind → Bool
is_server one = is_kind one Server

-- a receiver of this name is the server of this name, if it is one
server_among : (before ss : List Service) (name : List ℕ) (id : ℕ) → each_after is_next_own before ss ≡ true → find_service is_receiver ss name ≡ Some id
    → find_service is_server ss name ≡ (if is_own is_server ss id then Some id else None)
server_among before [] name id own e = absurd cc
server_among before (s ∷ ss) name id own e =
    by_test (is_kind s.kind Publisher) (is_kind s.kind Server) (bytes_eq s.name name) refl e
    (server_among (before ++ s ∷ []) ss name id (own_rest before s ss own))
  where
    behind : each_after is_next_own (before ++ s ∷ []) ss ≡ true
    behind = own_rest before s ss own

    place : length (before ++ s ∷ []) ≡ s.id + 1
    place = omega (arith, own_place before s ss own, length-append before (s ∷ []))

    others : bytes_eq s.name name ≡ true → (fits : ServiceKind → Bool) → find_service fits ss name ≡ None
    others t fits =
        named_before fits (before ++ s ∷ []) ss name behind
        (list_any-append (λ other. bytes_eq other.name name) before (s ∷ []) ∙ or_right _ _ (or_left _ _ t))

    later : find_service is_receiver ss name ≡ Some id → (s.id == id) ≡ false
    later e = let above = found_later is_receiver (before ++ s ∷ []) ss name id behind e in ne_eqb s.id id (λ same. absurd (omega (arith, above, place)))

    by_test : (publishes answers named : Bool) → bytes_eq s.name name ≡ named
        → option_map (λ (x : Service). x.id) (cond (not publishes && named) (Some s) (find_one is_receiver ss name)) ≡ Some id
        → (find_service is_receiver ss name ≡ Some id → find_service is_server ss name ≡ (if is_own is_server ss id then Some id else None))
        → option_map (λ (x : Service). x.id) (cond (answers && named) (Some s) (find_one is_server ss name)) ≡ (if (s.id == id && answers) || is_own is_server ss id then Some id else None)
    by_test true answers true t e rest = absurd (cc (others t is_receiver))
    by_test false true true t e rest = let same : s.id ≡ id = cc in rw (eq-eqb s.id id same) (cc)
    by_test false false true t e rest =
        rw (and_right (s.id == id) false refl, not_later is_server (before ++ s ∷ []) ss id behind (let same : s.id ≡ id = cc in omega (arith, place))) (others t is_server)
    by_test true true false t e rest = rw (later e) (rest e)
    by_test true false false t e rest = rw (later e) (rest e)
    by_test false true false t e rest = rw (later e) (rest e)
    by_test false false false t e rest = rw (later e) (rest e)

-- the server that a receiver's name names
pub receiver_server : (scope : ScopeValue) (name : List ℕ) (id : ℕ) → are_own scope.services ≡ true → receiver_of scope name ≡ Some id → server_of scope (Some name) ≡ (if serves scope Server id then Some id else None)
unfolding are_own receiver_of server_of service_of serves
receiver_server scope name id own e = server_among [] scope.services name id own e
