-- What one message more changes in what is known of the others: over what was seen, and over the messages that came in order.
use Rattle.std.specs.Prelude.{◌≡◌, refl, ℕ, nat_le, Bool, true, false, not, ◌&&◌, List, [], ◌∷◌, ◌++◌, length, Option, Some, None, slice_get, if◌then◌else◌}
use Rattle.std.specs.List.{fold, filter_map, cons_option}
use Rattle.std.specs.Option.{option_or}
use Rattle.std.proofs.Common.{ap, ap₂, sym, ◌∙◌, subst, append-nil, ⊎_elim}
use Rattle.std.proofs.lemmas.Bool.{eq-eqb, ne_eqb, and_parts, or_parts, cases_eq}
use Rattle.std.proofs.lemmas.List.Folds.{list_any-append}
use Rattle.std.proofs.lemmas.List.Elements.{filter_map-append}
use Rattle.sk_msg.specs.declared.content.Content.{Content}
use Rattle.sk_msg.specs.declared.content.Content.TheVariants.{Hello, Leave, NextStep, ServiceAdd, ServicesEnd, Status, Workflow, Abort, Can, Eth, Lin, LinResponse, Publish, Call, Reply, Refuse}
use Rattle.sk_msg.specs.declared.entry.Entry.{Entry}
use Rattle.sk_msg.specs.declared.entry.Entry.TheVariants.{Got, Put, Hand, State as Entered, System as Judged, Begin, Done, End, Ask, Gone, Stray, Did, Fault}
use Rattle.sk_law.specs.declared.said.Said.{Said}
use Rattle.sk_law.specs.declared.setup.Setup.{Setup}
use Rattle.sk_law.specs.Order.{may_say, opens, follows, follows_of_tool, is_hello, has_hello, said_of, said_after, state_in, status_of}
use Rattle.sk_law.specs.Links.{Taken, taken_of, of_peer, Seen, seen_after, take_in, is_in_order, may_say_as, shows_running, is_awaited, is_among, own_name, required_by, required_in}
use Rattle.sk_law.specs.Growing.{GoesByEntries}
use Rattle.sk_law.specs.Coming.{runs, waits, comes}

-- the message of this number
abbrev pub note : ℕ → Content → Taken
note p m = record { peer = p; message = m }

-- ## May it come

pub runs_is : (ms : List Content) (m : Content) → shows_running ms m ≡ runs (said_of ms) m
runs_is ms (Hello name role address) = refl
runs_is ms Leave = refl
runs_is ms (NextStep at duration) = refl
runs_is ms (ServiceAdd service) = refl
runs_is ms ServicesEnd = refl
runs_is ms (Status state until) = refl
runs_is ms (Workflow required) = refl
runs_is ms Abort = refl
runs_is ms (Can a b) = refl
runs_is ms (Eth a b) = refl
runs_is ms (Lin a b) = refl
runs_is ms (LinResponse a b) = refl
runs_is ms (Publish a b) = refl
runs_is ms (Call a b c) = refl
runs_is ms (Reply a b c d) = refl
runs_is ms (Refuse reason) = refl

pub waits_is : (S : Setup) (s : Seen) → is_awaited S s ≡ waits S.coordinated s.state (is_among (own_name S) (required_by S s.taken))
unfolding is_awaited
waits_is S s = refl

-- what the code computes by the record of what was said is the law's order
pub comes_is : (S : Setup) (tools : List (List ℕ)) (s : Seen) (p : ℕ) (m : Content) (name : List ℕ) → slice_get (S.names ++ tools) p ≡ Some name →
    is_in_order S tools s p m
    ≡ comes (waits S.coordinated s.state (is_among (own_name S) (required_by S s.taken))) (nat_le (length S.names) p) name (said_of (of_peer p s.taken)) m
unfolding is_in_order
comes_is S tools s p m name e =
    ap₂ (λ a b. a && not b)
    (ap (λ o. may_say_as o (nat_le (length S.names) p) (of_peer p s.taken) m) e)
    (ap₂ (λ a b. a && b) (waits_is S s) (runs_is (of_peer p s.taken) m))

-- a number without a name says nothing
pub nameless : (S : Setup) (tools : List (List ℕ)) (s : Seen) (p : ℕ) (m : Content) → slice_get (S.names ++ tools) p ≡ None → is_in_order S tools s p m ≡ false
unfolding is_in_order
nameless S tools s p m e =
    ap (λ o. may_say_as o (nat_le (length S.names) p) (of_peer p s.taken) m && not (is_awaited S s && shows_running (of_peer p s.taken) m)) e

-- who may say it, where it comes in order
pub may_from : (S : Setup) (tools : List (List ℕ)) (s : Seen) (p : ℕ) (m : Content) → is_in_order S tools s p m ≡ true →
    may_say_as (slice_get (S.names ++ tools) p) (nat_le (length S.names) p) (of_peer p s.taken) m ≡ true
unfolding is_in_order
may_from S tools s p m e = (and_parts _ _ e).0

-- ## The messages of one of them

pub of_same : (p : ℕ) (m : Content) (t : List Taken) → of_peer p (t ++ note p m ∷ []) ≡ of_peer p t ++ m ∷ []
of_same p m t =
    filter_map-append (taken_of p) t (note p m ∷ [])
    ∙ ap (λ (b : Bool). of_peer p t ++ cons_option (if b then Some m else None) []) (eq-eqb p p refl)

pub of_other : (p q : ℕ) (m : Content) (t : List Taken) → (p ≡ q → ⊥) → of_peer q (t ++ note p m ∷ []) ≡ of_peer q t
of_other p q m t ne =
    filter_map-append (taken_of q) t (note p m ∷ [])
    ∙ ap (λ (b : Bool). of_peer q t ++ cons_option (if b then Some m else None) []) (ne_eqb p q ne)
    ∙ append-nil (of_peer q t)

pub said_same : GoesByEntries → (p : ℕ) (m : Content) (t : List Taken) → said_of (of_peer p (t ++ note p m ∷ [])) ≡ said_after (said_of (of_peer p t)) m
said_same law p m t = ap said_of (of_same p m t) ∙ law.said (of_peer p t) m

-- ## Whom the simulation needs

-- the first Workflow counts, where the setup doesn't say it
pub required_more : (S : Setup) (t : List Taken) (one : Taken) → required_by S (t ++ one ∷ []) ≡ option_or (required_by S t) (required_in one)
required_more S t one =
    ap (λ xs. option_or S.required (slice_get xs 0)) (filter_map-append required_in t (one ∷ []))
    ∙ on S.required (filter_map required_in t) (required_in one)
  where
    on : (o : Option (List (List ℕ))) (xs : List (List (List ℕ))) (x : Option (List (List ℕ))) →
        option_or o (slice_get (xs ++ cons_option x []) 0) ≡ option_or (option_or o (slice_get xs 0)) x
    on (Some names) xs x = refl
    on None [] None = refl
    on None [] (Some names) = refl
    on None (names ∷ xs) x = refl

-- ## States

status_by : (s : Said) (m : Content) → (said_after s m).status ≡ option_or (state_in m) s.status
status_by s (Hello name role address) = refl
status_by s Leave = refl
status_by s (NextStep at duration) = refl
status_by s (ServiceAdd service) = refl
status_by s ServicesEnd = refl
status_by s (Status state until) = refl
status_by s (Workflow required) = refl
status_by s Abort = refl
status_by s (Can a b) = refl
status_by s (Eth a b) = refl
status_by s (Lin a b) = refl
status_by s (LinResponse a b) = refl
status_by s (Publish a b) = refl
status_by s (Call a b c) = refl
status_by s (Reply a b c d) = refl
status_by s (Refuse reason) = refl

pub status_same : GoesByEntries → (p : ℕ) (m : Content) (t : List Taken) → status_of (of_peer p (t ++ note p m ∷ [])) ≡ option_or (state_in m) (status_of (of_peer p t))
status_same law p m t = ap (λ (s : Said). s.status) (said_same law p m t) ∙ status_by (said_of (of_peer p t)) m

pub status_other : (p q : ℕ) (m : Content) (t : List Taken) → (p ≡ q → ⊥) → status_of (of_peer q (t ++ note p m ∷ [])) ≡ status_of (of_peer q t)
status_other p q m t ne = ap status_of (of_other p q m t ne)

-- ## Hello comes first

-- before its Hello nothing came in order
pub record IsOpened (ms : List Content) : Type 0 where
  pub nothing : has_hello ms ≡ false → ms ≡ []

opens_hello : (tool : Bool) (name : List ℕ) (m : Content) → opens tool name m ≡ true → is_hello m ≡ true
opens_hello tool name (Hello given role address) e = refl
opens_hello tool name Leave e = e
opens_hello tool name (NextStep at duration) e = e
opens_hello tool name (ServiceAdd service) e = e
opens_hello tool name ServicesEnd e = e
opens_hello tool name (Status state until) e = e
opens_hello tool name (Workflow required) e = e
opens_hello tool name Abort e = e
opens_hello tool name (Can a b) e = e
opens_hello tool name (Eth a b) e = e
opens_hello tool name (Lin a b) e = e
opens_hello tool name (LinResponse a b) e = e
opens_hello tool name (Publish a b) e = e
opens_hello tool name (Call a b c) e = e
opens_hello tool name (Reply a b c d) e = e
opens_hello tool name (Refuse reason) e = e

-- the first is Hello
pub hello_first : (o : Option (List ℕ)) (tool : Bool) (ms : List Content) (m : Content) → has_hello ms ≡ false → may_say_as o tool ms m ≡ true → is_hello m ≡ true
unfolding may_say
hello_first None tool ms m h e = absurd (let no : false ≡ true = e in cc)
hello_first (Some name) tool ms m h e =
    opens_hello tool name m
    (sym (ap (λ (b : Bool). if b then (not (said_of ms).left && (if tool then follows_of_tool m else follows (said_of ms) m)) else opens tool name m) h) ∙ e)

-- none follows it
no_second : (tool : Bool) (s : Said) (m : Content) → (if tool then follows_of_tool m else follows s m) ≡ true → is_hello m ≡ false
no_second true s (Hello name role address) e = sym e
no_second false s (Hello name role address) e = sym e
no_second tool s Leave e = refl
no_second tool s (NextStep at duration) e = refl
no_second tool s (ServiceAdd service) e = refl
no_second tool s ServicesEnd e = refl
no_second tool s (Status state until) e = refl
no_second tool s (Workflow required) e = refl
no_second tool s Abort e = refl
no_second tool s (Can a b) e = refl
no_second tool s (Eth a b) e = refl
no_second tool s (Lin a b) e = refl
no_second tool s (LinResponse a b) e = refl
no_second tool s (Publish a b) e = refl
no_second tool s (Call a b c) e = refl
no_second tool s (Reply a b c d) e = refl
no_second tool s (Refuse reason) e = refl

pub hello_once : (o : Option (List ℕ)) (tool : Bool) (ms : List Content) (m : Content) → has_hello ms ≡ true → may_say_as o tool ms m ≡ true → is_hello m ≡ false
unfolding may_say
hello_once None tool ms m h e = absurd (let no : false ≡ true = e in cc)
hello_once (Some name) tool ms m h e =
    no_second tool (said_of ms) m
    (and_parts (not (said_of ms).left) (if tool then follows_of_tool m else follows (said_of ms) m)
    (sym (ap (λ (b : Bool). if b then (not (said_of ms).left && (if tool then follows_of_tool m else follows (said_of ms) m)) else opens tool name m) h) ∙ e)).1

-- an order that is kept stays kept
pub opened_more : (o : Option (List ℕ)) (tool : Bool) (ms : List Content) (m : Content) → may_say_as o tool ms m ≡ true → IsOpened (ms ++ m ∷ [])
opened_more o tool ms m e = record { nothing = λ silent. absurd (never silent) }
  where
    never : has_hello (ms ++ m ∷ []) ≡ false → ⊥
    never silent =
        let both = or_parts (has_hello ms) (has_hello (m ∷ [])) (sym (list_any-append is_hello ms (m ∷ [])) ∙ silent) in
        let here = or_parts (is_hello m) false both.1 in
        let yes : is_hello m ≡ true = hello_first o tool ms m both.0 e in
        let clash : true ≡ false = sym yes ∙ here.0 in
        cc

-- so it is of all that was seen
abbrev pub AreOpened : List Taken → Type 0
AreOpened t = (p : ℕ) → IsOpened (of_peer p t)

pub opened_in : (S : Setup) (tools : List (List ℕ)) (s : Seen) (p : ℕ) (m : Content) → is_in_order S tools s p m ≡ true → AreOpened s.taken → AreOpened (s.taken ++ note p m ∷ [])
opened_in S tools s p m e h q = ⊎_elim
    (λ (same : p ≡ q). subst (λ r. IsOpened (of_peer r (s.taken ++ note p m ∷ []))) same
    (subst IsOpened (sym (of_same p m s.taken)) (opened_more _ _ (of_peer p s.taken) m (may_from S tools s p m e))))
    (λ (ne : p ≡ q → ⊥). subst IsOpened (sym (of_other p q m s.taken ne)) (h q))
    (cases_eq p q)

opened_after : (S : Setup) (tools : List (List ℕ)) (s : Seen) (e : Entry) → AreOpened s.taken → AreOpened (seen_after S tools s e).taken
opened_after S tools s (Got p m) h = on (is_in_order S tools s p m) refl
  where
    on : (b : Bool) → is_in_order S tools s p m ≡ b → AreOpened (if b then take_in p m s else s).taken
    on true e = opened_in S tools s p m e h
    on false e = h
opened_after S tools s (Put p m) h = h
opened_after S tools s (Hand p k r) h = h
opened_after S tools s (Entered to) h = h
opened_after S tools s (Judged to) h = h
opened_after S tools s (Begin n t) h = h
opened_after S tools s (Done n) h = h
opened_after S tools s (End n) h = h
opened_after S tools s (Ask command verdict) h = h
opened_after S tools s (Gone p reason) h = h
opened_after S tools s (Stray n) h = h
opened_after S tools s (Did service code message) h = h
opened_after S tools s (Fault n) h = h

pub opened_all : (S : Setup) (tools : List (List ℕ)) (es : List Entry) (s : Seen) → AreOpened s.taken → AreOpened (fold (seen_after S tools) s es).taken
opened_all S tools [] s h = h
opened_all S tools (e ∷ es) s h = opened_all S tools es (seen_after S tools s e) (opened_after S tools s e h)
