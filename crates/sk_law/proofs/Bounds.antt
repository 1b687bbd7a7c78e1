-- The limit of the steps: what one message more makes of it.
use Rattle.std.specs.Prelude.{◌≡◌, refl, ℕ, ◌==◌, nat_lt, ◌<◌, min, Bool, true, false, not, ◌&&◌, ◌||◌, List, [], ◌∷◌, ◌++◌, length, filter, Option, Some, None, option_to_list, if◌then◌else◌}
use Rattle.std.specs.List.{fold, flat_map, list_any, cons_option, range_with_len}
use Rattle.std.proofs.Common.{ap, ap₂, sym, ◌∙◌, subst, append-nil, ⊎_elim, arith}
use Rattle.std.proofs.lemmas.Bool.{eq-eqb, ne_eqb, lt-ltb, ltb-true, and_parts, cases_eq}
use Rattle.std.proofs.lemmas.List.Elements.{filter_map-append}
use Rattle.std.proofs.lemmas.List.Folds.{list_any-append}
use Rattle.std.proofs.lemmas.List.Sums.{fold-append}
use Rattle.sk_msg.specs.declared.content.Content.{Content}
use Rattle.sk_msg.specs.declared.content.Content.TheVariants.{Hello, Leave, NextStep, ServiceAdd, ServicesEnd, Status, Workflow, Abort, Can, Eth, Lin, LinResponse, Publish, Call, Reply, Refuse}
use Rattle.sk_law.specs.declared.setup.Setup.{Setup}
use Rattle.sk_law.specs.Order.{is_hello, has_hello, says_coordinated, is_coordinated, until_in, untils_of}
use Rattle.sk_law.specs.Links.{Taken, of_peer, may_say_as, is_peer, peers}
use Rattle.sk_law.specs.Coming.{lower}
use Rattle.sk_law.proofs.Gots.{note, IsOpened, AreOpened, hello_first, hello_once, of_same, of_other}
use Rattle.sk_law.proofs.Others.{any_at, any_none}

-- the bounds that one told who is coordinated
abbrev pub bounds : List Content → List ℕ
bounds ms = if is_coordinated ms then untils_of ms else []

-- the limit, by the messages that came in order
abbrev pub limit_of : Setup → List Taken → ℕ
limit_of S t = fold min S.duration (if S.coordinated then flat_map (λ p. bounds (of_peer p t)) (peers S) else [])

-- ## The bounds of one

says_no : (m : Content) → is_hello m ≡ false → says_coordinated m ≡ false
says_no (Hello name role address) e = absurd (let no : true ≡ false = e in cc)
says_no Leave e = refl
says_no (NextStep at duration) e = refl
says_no (ServiceAdd service) e = refl
says_no ServicesEnd e = refl
says_no (Status state until) e = refl
says_no (Workflow required) e = refl
says_no Abort e = refl
says_no (Can a b) e = refl
says_no (Eth a b) e = refl
says_no (Lin a b) e = refl
says_no (LinResponse a b) e = refl
says_no (Publish a b) e = refl
says_no (Call a b c) e = refl
says_no (Reply a b c d) e = refl
says_no (Refuse reason) e = refl

-- Hello bounds nothing
hello_free : (m : Content) → is_hello m ≡ true → until_in m ≡ None
hello_free (Hello name role address) e = refl
hello_free Leave e = refl
hello_free (NextStep at duration) e = refl
hello_free (ServiceAdd service) e = refl
hello_free ServicesEnd e = refl
hello_free (Status state until) e = absurd (let no : false ≡ true = e in cc)
hello_free (Workflow required) e = refl
hello_free Abort e = refl
hello_free (Can a b) e = refl
hello_free (Eth a b) e = refl
hello_free (Lin a b) e = refl
hello_free (LinResponse a b) e = refl
hello_free (Publish a b) e = refl
hello_free (Call a b c) e = refl
hello_free (Reply a b c d) e = refl
hello_free (Refuse reason) e = refl

one_of : {X : Type 0} (o : Option X) → cons_option o [] ≡ option_to_list o
one_of None = refl
one_of (Some x) = refl

or_no : (b : Bool) → (b || false) ≡ b
or_no true = refl
or_no false = refl

untils_more : (ms : List Content) (m : Content) → untils_of (ms ++ m ∷ []) ≡ untils_of ms ++ option_to_list (until_in m)
untils_more ms m = filter_map-append until_in ms (m ∷ []) ∙ ap (λ xs. untils_of ms ++ xs) (one_of (until_in m))

coordinated_more : (ms : List Content) (m : Content) → is_hello m ≡ false → is_coordinated (ms ++ m ∷ []) ≡ is_coordinated ms
coordinated_more ms m e =
    list_any-append says_coordinated ms (m ∷ [])
    ∙ ap (λ b. is_coordinated ms || b) (or_no (says_coordinated m) ∙ says_no m e)
    ∙ or_no (is_coordinated ms)

-- what counts of a message
abbrev pub counted : Bool → Content → Option ℕ
counted coordinated m = if coordinated then until_in m else None

both : (b : Bool) (xs : List ℕ) (o : Option ℕ) → (if b then xs ++ option_to_list o else []) ≡ (if b then xs else []) ++ option_to_list (if b then o else None)
both true xs o = refl
both false xs o = refl

neither : (b : Bool) (xs : List ℕ) → xs ≡ [] → (if b then xs else []) ≡ []
neither true xs e = e
neither false xs e = refl

-- one message more of one, where it comes in order
pub bounds_more : (o : Option (List ℕ)) (tool : Bool) (ms : List Content) (m : Content) → IsOpened ms → may_say_as o tool ms m ≡ true →
    bounds (ms ++ m ∷ []) ≡ bounds ms ++ option_to_list (counted (is_coordinated ms) m)
bounds_more o tool ms m h e = on (has_hello ms) refl
  where
    on : (b : Bool) → has_hello ms ≡ b → bounds (ms ++ m ∷ []) ≡ bounds ms ++ option_to_list (counted (is_coordinated ms) m)
    on true spoken =
        ap₂ (λ (b : Bool) (xs : List ℕ). if b then xs else []) (coordinated_more ms m (hello_once o tool ms m spoken e)) (untils_more ms m)
        ∙ both (is_coordinated ms) (untils_of ms) (until_in m)
    on false silent =
        let none : ms ≡ [] = h.nothing silent in
        let free : option_to_list (until_in m) ≡ [] = ap option_to_list (hello_free m (hello_first o tool ms m silent e)) in
        let left : bounds (ms ++ m ∷ []) ≡ [] =
        neither (is_coordinated (ms ++ m ∷ [])) (untils_of (ms ++ m ∷ [])) (untils_more ms m ∙ ap₂ (λ (xs ys : List ℕ). xs ++ ys) (ap untils_of none) free) in
        let right : bounds ms ++ option_to_list (counted (is_coordinated ms) m) ≡ [] =
        ap (λ (xs : List Content). bounds xs ++ option_to_list (counted (is_coordinated xs) m)) none in
        left ∙ sym right

-- ## The least of all bounds

swap : (d u x : ℕ) → min (min d u) x ≡ min (min d x) u
swap d u x = omega arith

twice : (d u : ℕ) → min (min d u) u ≡ min d u
twice d u = omega arith

fold-min : (xs : List ℕ) (d u : ℕ) → fold min (min d u) xs ≡ min (fold min d xs) u
fold-min [] d u = refl
fold-min (x ∷ xs) d u = ap (λ k. fold min k xs) (swap d u x) ∙ fold-min xs (min d x) u

fold-lower : (o : Option ℕ) (xs : List ℕ) (d : ℕ) → fold min (lower o d) xs ≡ lower o (fold min d xs)
fold-lower None xs d = refl
fold-lower (Some u) xs d = fold-min xs d u

lower_twice : (o : Option ℕ) (d : ℕ) → lower o (lower o d) ≡ lower o d
lower_twice None d = refl
lower_twice (Some u) d = twice d u

fold-end : (o : Option ℕ) (xs : List ℕ) (d : ℕ) → fold min d (xs ++ option_to_list o) ≡ lower o (fold min d xs)
fold-end None xs d = ap (λ ys. fold min d ys) (append-nil xs)
fold-end (Some u) xs d = fold-append min d xs (u ∷ [])

-- lowered, where it counts
abbrev pub lowered_if : Bool → Option ℕ → ℕ → ℕ
lowered_if counts o d = if counts then lower o d else d

-- p is among these
abbrev has : ℕ → List ℕ → Bool
has p ps = list_any (λ q. q == p) ps

-- one of them told one bound more
least_more : (f g : ℕ → List ℕ) (p : ℕ) (o : Option ℕ) → g p ≡ f p ++ option_to_list o → ((q : ℕ) → (p ≡ q → ⊥) → g q ≡ f q) → (ps : List ℕ) (d : ℕ) →
    fold min d (flat_map g ps) ≡ lowered_if (has p ps) o (fold min d (flat_map f ps))
least_more f g p o here there [] d = refl
least_more f g p o here there (q ∷ qs) d =
    fold-append min d (g q) (flat_map g qs)
    ∙ least_more f g p o here there qs (fold min d (g q))
    ∙ ⊎_elim
    (λ (same : p ≡ q). at same (fold min d (g q)) (ap (λ xs. fold min d xs) (subst (λ r. g r ≡ f r ++ option_to_list o) same here) ∙ fold-end o (f q) d))
    (λ (ne : p ≡ q → ⊥). past ne (fold min d (g q)) (ap (λ xs. fold min d xs) (there q ne)))
    (cases_eq p q)
    ∙ ap (λ (x : ℕ). lowered_if (has p (q ∷ qs)) o x) (sym (fold-append min d (f q) (flat_map f qs)))
  where
    either : (b : Bool) (x : ℕ) → lowered_if b o (lower o x) ≡ lower o x
    either true x = lower_twice o x
    either false x = refl

    at : p ≡ q → (k : ℕ) → k ≡ lower o (fold min d (f q)) →
        lowered_if (has p qs) o (fold min k (flat_map f qs)) ≡ lowered_if (has p (q ∷ qs)) o (fold min (fold min d (f q)) (flat_map f qs))
    at same k e =
        ap (λ (x : ℕ). lowered_if (has p qs) o (fold min x (flat_map f qs))) e
        ∙ ap (λ (x : ℕ). lowered_if (has p qs) o x) (fold-lower o (flat_map f qs) (fold min d (f q)))
        ∙ either (has p qs) (fold min (fold min d (f q)) (flat_map f qs))
        ∙ ap (λ (b : Bool). lowered_if (b || has p qs) o (fold min (fold min d (f q)) (flat_map f qs))) (sym (eq-eqb q p (sym same)))

    past : (p ≡ q → ⊥) → (k : ℕ) → k ≡ fold min d (f q) →
        lowered_if (has p qs) o (fold min k (flat_map f qs)) ≡ lowered_if (has p (q ∷ qs)) o (fold min (fold min d (f q)) (flat_map f qs))
    past ne k e =
        ap (λ (x : ℕ). lowered_if (has p qs) o (fold min x (flat_map f qs))) e
        ∙ ap (λ (b : Bool). lowered_if (b || has p qs) o (fold min (fold min d (f q)) (flat_map f qs))) (sym (ne_eqb q p (λ back. ne (sym back))))

-- ## Peers

any_filter : (g h : ℕ → Bool) (xs : List ℕ) → list_any h (filter g xs) ≡ list_any (λ x. g x && h x) xs
any_filter g h [] = refl
any_filter g h (x ∷ xs) = on (g x) ∙ ap (λ c. (g x && h x) || c) (any_filter g h xs)
  where
    on : (b : Bool) → list_any h (if b then x ∷ filter g xs else filter g xs) ≡ ((b && h x) || list_any h (filter g xs))
    on true = refl
    on false = refl

-- the peers are those numbers
pub peers_are : (S : Setup) (p : ℕ) → has p (peers S) ≡ is_peer S p
peers_are S p = any_filter (λ q. not (q == S.number)) (λ q. q == p) (range_with_len 0 (length S.names)) ∙ on (is_peer S p) refl
  where
    on : (b : Bool) → is_peer S p ≡ b → list_any (λ q. not (q == S.number) && q == p) (range_with_len 0 (length S.names)) ≡ b
    on true e =
        let parts = and_parts (nat_lt p (length S.names)) (not (p == S.number)) e in
        let small : p < length S.names = ltb-true p (length S.names) parts.0 in
        any_at (λ q. not (q == S.number) && q == p) 0 (length S.names) p (omega arith) (omega arith) (ap₂ (λ a b. a && b) parts.1 (eq-eqb p p refl))
    on false e =
        any_none (λ q. not (q == S.number) && q == p) 0 (length S.names) (λ q low high. by q (omega arith))
      where
        far : (q : ℕ) → q < length S.names → p ≡ q → (not (q == S.number) && q == p) ≡ false
        far q small same =
            let is : (nat_lt q (length S.names) && not (q == S.number)) ≡ false = subst (λ r. (nat_lt r (length S.names) && not (r == S.number)) ≡ false) same e in
            let no : not (q == S.number) ≡ false = sym (ap (λ b. b && not (q == S.number)) (lt-ltb q (length S.names) small)) ∙ is in
            ap (λ b. b && q == p) no

        other : (q : ℕ) → (p ≡ q → ⊥) → (not (q == S.number) && q == p) ≡ false
        other q ne = ap (λ b. not (q == S.number) && b) (ne_eqb q p (λ back. ne (sym back))) ∙ none (not (q == S.number))
          where
            none : (b : Bool) → (b && false) ≡ false
            none true = refl
            none false = refl

        by : (q : ℕ) → q < length S.names → (not (q == S.number) && q == p) ≡ false
        by q small = ⊎_elim (far q small) (other q) (cases_eq p q)

-- ## The limit

-- whether a bound that p tells counts
abbrev pub is_bound : Setup → List Taken → ℕ → Bool
is_bound S t p = S.coordinated && (is_peer S p && is_coordinated (of_peer p t))

pub limit_in : (S : Setup) (t : List Taken) (p : ℕ) (m : Content) (o : Option (List ℕ)) (tool : Bool) → AreOpened t → may_say_as o tool (of_peer p t) m ≡ true →
    limit_of S (t ++ note p m ∷ []) ≡ lowered_if (is_bound S t p) (until_in m) (limit_of S t)
limit_in S t p m o tool h e = on S.coordinated
  where
    more : fold min S.duration (flat_map (λ q. bounds (of_peer q (t ++ note p m ∷ []))) (peers S))
        ≡ lowered_if (has p (peers S)) (counted (is_coordinated (of_peer p t)) m) (fold min S.duration (flat_map (λ q. bounds (of_peer q t)) (peers S)))
    more = least_more (λ q. bounds (of_peer q t)) (λ q. bounds (of_peer q (t ++ note p m ∷ []))) p (counted (is_coordinated (of_peer p t)) m)
        (ap bounds (of_same p m t) ∙ bounds_more o tool (of_peer p t) m (h p) e)
        (λ q ne. ap bounds (of_other p q m t ne)) (peers S) S.duration

    two : (a b : Bool) (x : ℕ) → lowered_if a (counted b m) x ≡ lowered_if (a && b) (until_in m) x
    two true true x = refl
    two true false x = refl
    two false b x = refl

    on : (c : Bool) → fold min S.duration (if c then flat_map (λ q. bounds (of_peer q (t ++ note p m ∷ []))) (peers S) else [])
        ≡ lowered_if (c && (is_peer S p && is_coordinated (of_peer p t))) (until_in m) (fold min S.duration (if c then flat_map (λ q. bounds (of_peer q t)) (peers S) else []))
    on true =
        more
        ∙ ap (λ (b : Bool). lowered_if b (counted (is_coordinated (of_peer p t)) m) (fold min S.duration (flat_map (λ q. bounds (of_peer q t)) (peers S)))) (peers_are S p)
        ∙ two (is_peer S p) (is_coordinated (of_peer p t)) (fold min S.duration (flat_map (λ q. bounds (of_peer q t)) (peers S)))
    on false = refl
