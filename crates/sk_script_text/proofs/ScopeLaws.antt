-- Services and variables are found by the names that are written for them.
use Rattle.std.proofs.Common.{◌≡◌, ℕ, zero, suc, ◌+◌, ◌^◌, ◌<◌, Bool, true, false, cond, List, [], ◌∷◌, ◌++◌, length, length-append, Option, Some, None, option_map, refl, subst, ap, arith}
use Rattle.std.specs.Prelude.{◌&&◌, ◌||◌, ◌==◌, not, nat_lt, slice_get, unwrap_or, position, if◌then◌else◌}
use Rattle.std.specs.List.{list_all, list_any, position_or_len}
use Rattle.std.specs.Str.{bytes_eq}
use Rattle.std.proofs.lemmas.Bool.{and_parts, and_left, or_parts, or_from, false≢true, eqb-true, ne_eqb, ltb-true, lt-ltb}
use Rattle.sk_base.specs.Ranges.{is_name}
use Rattle.sk_msg.specs.Each.{each_after}
use Rattle.sk_msg.specs.declared.service.Service.{Service}
use Rattle.sk_msg.specs.declared.service.ServiceKind.{ServiceKind}
use Rattle.sk_msg.specs.declared.service.ServiceKind.TheVariants.{Publisher, Server}
use Rattle.sk_config.specs.Applied.{is_kind}
use Rattle.sk_rules.specs.Orders.{is_before, are_sorted}
use Rattle.sk_rules.specs.Places.{ScopeValue, find_one, service_of, receiver_of, variable_of, is_next_own}
use Rattle.sk_rules.specs.Scripts.{is_own, serves, receives, is_variable}
use Rattle.sk_rules.specs.Vars.{is_var, are_vars, names_of}
use Rattle.sk_rules.specs.declared.vars.Var.{Var}
use Rattle.sk_script.specs.Services.{is_next_service, are_services}
use Rattle.sk_script_text.specs.Actions.{service_name, variable_name}
use Rattle.sk_script_text.proofs.ActionLaws.{IsNamed}
use Rattle.sk_script_text.proofs.NameLaws.{same_name, name_turned, before_differs}

-- ---- services

-- none of these has the name
abbrev is_unused : List Service → List ℕ → Bool
is_unused before name = not (list_any (λ other. bytes_eq other.name name) before)

-- the service of this number, and that it is the one of its name and of its number
record FoundOwn (fits : ServiceKind → Bool) (before services : List Service) (s : ℕ) : Type 0 where
  at : ℕ
  service : Service
  number : at + length before ≡ s
  there : slice_get services at ≡ Some service
  id : service.id ≡ s
  fit : fits service.kind ≡ true
  fine : is_name service.name ≡ true
  new : list_any (λ other. bytes_eq other.name service.name) before ≡ false
  found : (other : ServiceKind → Bool) → find_one other services service.name ≡ cond (other service.kind) (Some service) None
  owned : (other : ServiceKind → Bool) → is_own other services s ≡ other service.kind

any_left : (test : Service → Bool) (xs ys : List Service) → list_any test (xs ++ ys) ≡ false → list_any test xs ≡ false
any_left test [] ys h = refl
any_left test (x ∷ xs) ys h = let p = or_parts (test x) (list_any test (xs ++ ys)) h in rw (p.0, any_left test xs ys p.1) refl

any_at : (test : Service → Bool) (xs : List Service) (y : Service) (ys : List Service) → list_any test (xs ++ y ∷ ys) ≡ false → test y ≡ false
any_at test [] y ys h = (or_parts (test y) (list_any test ys) h).0
any_at test (x ∷ xs) y ys h = any_at test xs y ys (or_parts (test x) (list_any test (xs ++ y ∷ ys)) h).1

append_one : (xs : List Service) (y : Service) (ys : List Service) → (xs ++ y ∷ []) ++ ys ≡ xs ++ y ∷ ys
append_one [] y ys = refl
append_one (x ∷ xs) y ys = ap (λ zs. x ∷ zs) (append_one xs y ys)

not_true : (b : Bool) → not b ≡ true → b ≡ false
not_true true h = absurd (false≢true h)
not_true false h = refl

no_and : (a b : Bool) → b ≡ false → (a && b) ≡ false
no_and true b h = h
no_and false b h = refl

-- what is known of the first of these
record IsFirst (before : List Service) (x : Service) : Type 0 where
  id : x.id ≡ length before
  new : list_any (λ other. bytes_eq other.name x.name) before ≡ false
  fine : is_name x.name ≡ true

first_is : (before : List Service) (x : Service) → is_next_service before x ≡ true → IsFirst before x
unfolding is_next_service is_next_own
first_is before x h =
    let next = and_parts _ _ h in
    let place = and_parts _ _ next.0 in
    let named = and_parts _ _ next.1 in
    record { id = eqb-true _ _ place.0; new = not_true _ place.1; fine = named.0 }

-- behind one of these, none has its name
none_named : (other : ServiceKind → Bool) (before : List Service) (x : Service) (between xs : List Service) → each_after is_next_service (before ++ x ∷ between) xs ≡ true → find_one other xs x.name ≡ None
none_named other before x between [] each = refl
none_named other before x between (y ∷ ys) each =
    let both = and_parts _ _ each in
    let first = first_is (before ++ x ∷ between) y both.0 in
    let differs = name_turned x.name y.name (any_at (λ (o : Service). bytes_eq o.name y.name) before x between first.new) in
    let longer : (before ++ x ∷ between) ++ y ∷ [] ≡ before ++ x ∷ (between ++ y ∷ []) = append_more before x between y in
    rw (no_and (other y.kind) (bytes_eq y.name x.name) differs)
    (none_named other before x (between ++ y ∷ []) ys (subst (λ (bs : List Service). each_after is_next_service bs ys ≡ true) longer both.1))
  where
    append_more : (bs : List Service) (x : Service) (cs : List Service) (y : Service) → (bs ++ x ∷ cs) ++ y ∷ [] ≡ bs ++ x ∷ (cs ++ y ∷ [])
    append_more [] x cs y = refl
    append_more (b ∷ bs) x cs y = ap (λ zs. b ∷ zs) (append_more bs x cs y)

-- nor a number below theirs
none_numbered : (other : ServiceKind → Bool) (before xs : List Service) (s : ℕ) → each_after is_next_service before xs ≡ true → s < length before → is_own other xs s ≡ false
none_numbered other before [] s each less = refl
none_numbered other before (y ∷ ys) s each less =
    let both = and_parts _ _ each in
    let first = first_is before y both.0 in
    let apart : (y.id == s) ≡ false = ne_eqb y.id s (λ e. omega (arith, less, first.id, e)) in
    or_from _ _ (and_left (y.id == s) (other y.kind) apart) (none_numbered other (before ++ y ∷ []) ys s both.1 (omega (arith, less, length-append before (y ∷ []))))

module _ (fits : ServiceKind → Bool) (s : ℕ) where
  find_back : (before services : List Service) → each_after is_next_service before services ≡ true → is_own fits services s ≡ true → FoundOwn fits before services s
  find_back before [] each own = absurd (false≢true own)
  find_back before (x ∷ xs) each own =
      let both = and_parts _ _ each in
      by_test (x.id == s && fits x.kind) refl (first_is before x both.0) both.1 (find_back (before ++ x ∷ []) xs both.1)
    where
      at_first : (other : ServiceKind → Bool) (b : Bool) → other x.kind ≡ b → find_one other xs x.name ≡ None → find_one other (x ∷ xs) x.name ≡ cond b (Some x) None
      at_first other true e none = rw (e, same_name x.name) refl
      at_first other false e none = rw e none

      by_test : (b : Bool) → (x.id == s && fits x.kind) ≡ b → IsFirst before x → each_after is_next_service (before ++ x ∷ []) xs ≡ true
          → (is_own fits xs s ≡ true → FoundOwn fits (before ++ x ∷ []) xs s) → FoundOwn fits before (x ∷ xs) s
      by_test true t first each later =
          let p = and_parts _ _ t in
          let is : x.id ≡ s = eqb-true _ _ p.0 in
          let below : s < length (before ++ x ∷ []) = omega (arith, is, first.id, length-append before (x ∷ [])) in
          record {
            at = 0;
            service = x;
            number = omega (arith, is, first.id);
            there = refl;
            id = is;
            fit = p.1;
            fine = first.fine;
            new = first.new;
            found = λ other. at_first other (other x.kind) refl (none_named other before x [] xs each);
            owned = λ other. rw (p.0, none_numbered other (before ++ x ∷ []) xs s each below) (or_no (other x.kind));
          }
        where
          or_no : (b : Bool) → (b || false) ≡ b
          or_no true = refl
          or_no false = refl
      by_test false t first each later =
          let r = later (rw t at own) in
          let behind : length before < s = omega (arith, r.number, length-append before (x ∷ [])) in
          let apart : (x.id == s) ≡ false = ne_eqb x.id s (λ e. omega (arith, behind, first.id, e)) in
          record {
            at = suc r.at;
            service = r.service;
            number = omega (arith, r.number, length-append before (x ∷ []));
            there = r.there;
            id = r.id;
            fit = r.fit;
            fine = r.fine;
            new = any_left (λ other. bytes_eq other.name r.service.name) before (x ∷ []) r.new;
            found = λ other. rw (no_and (other x.kind) (bytes_eq x.name r.service.name) (any_at (λ (o : Service). bytes_eq o.name r.service.name) before x [] r.new)) (r.found other);
            owned = λ other. rw apart (r.owned other);
          }

module _ (scope : ScopeValue) (fine : are_services scope.services ≡ true) where
  own_back : (fits : ServiceKind → Bool) (s : ℕ) → is_own fits scope.services s ≡ true → FoundOwn fits [] scope.services s
  unfolding are_services
  own_back fits s own = find_back fits s [] scope.services (and_parts _ _ fine).1 own

  place_is : (fits : ServiceKind → Bool) (s : ℕ) (r : FoundOwn fits [] scope.services s) → slice_get scope.services s ≡ Some r.service
  place_is fits s r = subst (λ n. slice_get scope.services n ≡ Some r.service) (let e : r.at ≡ s = omega (arith, r.number) in e) r.there

  served_back : (kind : ServiceKind) (s : ℕ) → serves scope kind s ≡ true → (is_name (service_name scope s) ≡ true) × (service_of scope kind (service_name scope s) ≡ Some s)
  unfolding serves service_of service_name
  served_back kind s own =
      let r = own_back (λ one. is_kind one kind) s own in
      (rw (place_is (λ one. is_kind one kind) s r) r.fine, rw (place_is (λ one. is_kind one kind) s r, r.found (λ one. is_kind one kind), r.fit, r.id) refl)

  received_back : (s : ℕ) → receives scope s ≡ true → (is_name (service_name scope s) ≡ true) × (receiver_of scope (service_name scope s) ≡ Some s)
  unfolding receives receiver_of service_name
  received_back s own =
      let r = own_back (λ one. not (is_kind one Publisher)) s own in
      (rw (place_is (λ one. not (is_kind one Publisher)) s r) r.fine, rw (place_is (λ one. not (is_kind one Publisher)) s r, r.found (λ one. not (is_kind one Publisher)), r.fit, r.id) refl)

  -- the name of one that receives is that of a server exactly where it is one
  server_back : (s : ℕ) → receives scope s ≡ true → service_of scope Server (service_name scope s) ≡ (if serves scope Server s then Some s else None)
  unfolding receives serves service_of service_name
  server_back s own =
      let r = own_back (λ one. not (is_kind one Publisher)) s own in
      rw (place_is (λ one. not (is_kind one Publisher)) s r, r.found (λ one. is_kind one Server), r.owned (λ one. is_kind one Server)) (by_test r.service (is_kind r.service.kind Server) r.id)
    where
      by_test : (service : Service) (b : Bool) → service.id ≡ s → option_map (λ (one : Service). one.id) (cond b (Some service) None) ≡ cond b (Some s) None
      by_test service true e = ap Some e
      by_test service false e = refl

-- ---- variables

all_at : (test : List ℕ → Bool) (vars : List Var) (place : ℕ) (var : Var) → list_all test (names_of vars) ≡ true → slice_get vars place ≡ Some var → test var.name ≡ true
all_at test [] place var all there = absurd cc
all_at test (x ∷ xs) zero var all there = subst (λ (o : Option Var). unwrap_or (option_map (λ (v : Var). test v.name) o) true ≡ true) there (and_parts _ _ all).0
all_at test (x ∷ xs) (suc place) var all there = all_at test xs place var (and_parts _ _ all).1 there

position_is : (test : Var → Bool) (vars : List Var) (place : ℕ) → position_or_len test vars ≡ place → place < length vars → position test vars ≡ Some place
position_is test vars place e less = rw (e, lt-ltb place (length vars) less) refl

-- the variable in this place, and that it is the first of its name
record FoundAt (vars : List Var) (place : ℕ) : Type 0 where
  var : Var
  there : slice_get vars place ≡ Some var
  fine : is_name var.name ≡ true
  first : position_or_len (λ (other : Var). bytes_eq other.name var.name) vars ≡ place

find_var : (vars : List Var) (place : ℕ) → list_all is_var vars ≡ true → are_sorted (names_of vars) ≡ true → place < length vars → FoundAt vars place
unfolding is_var
find_var [] place all sorted less = absurd (omega (arith, less))
find_var (x ∷ xs) zero all sorted less =
    let p = and_parts (is_var x) (list_all is_var xs) all in
    let q = and_parts (is_name x.name) (nat_lt x.value (2 ^ 64)) p.0 in
    record { var = x; there = refl; fine = q.0; first = rw (same_name x.name) refl }
find_var (x ∷ xs) (suc place) all sorted less =
    let p = and_parts _ _ sorted in
    let a = and_parts (is_var x) (list_all is_var xs) all in
    let r = find_var xs place a.1 p.1 (omega (arith, less)) in
    let other = before_differs x.name r.var.name (all_at (is_before x.name) xs place r.var p.0 r.there) in
    record { var = r.var; there = r.there; fine = r.fine; first = rw (other, r.first) (omega arith) }

module _ (scope : ScopeValue) (fine : are_vars scope.vars ≡ true) where
  held_back : (place : ℕ) → is_variable scope place ≡ true → (is_name (variable_name scope place) ≡ true) × (variable_of scope (variable_name scope place) ≡ Some place)
  unfolding is_variable variable_of variable_name are_vars
  held_back place within =
      let p = and_parts _ _ fine in
      let q = and_parts _ _ p.1 in
      let less = ltb-true place (length scope.vars) within in
      let r = find_var scope.vars place q.0 q.1 less in
      (rw r.there r.fine, rw r.there (position_is (λ (other : Var). bytes_eq other.name r.var.name) scope.vars place r.first less))

pub all_named : (scope : ScopeValue) → are_services scope.services ≡ true → are_vars scope.vars ≡ true → IsNamed scope
all_named scope services vars = record { served = served_back scope services; received = received_back scope services; server = server_back scope services; held = held_back scope vars }
