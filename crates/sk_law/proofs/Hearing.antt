-- A message is got.
use Rattle.std.specs.Prelude.{◌≡◌, refl, ℕ, ◌<◌, ◌&&◌, ◌==◌, min, Bool, true, false, List, [], ◌∷◌, ◌++◌, not, nat_le, unwrap_or, OnErr, Result, Ok, Err, is_none, slice_get, length, Option, Some, None, slice_index_or, slice_set, if◌then◌else◌}
use Rattle.std.specs.List.{fold}
use Rattle.std.specs.Option.{option_map, option_or}
use Rattle.std.proofs.Common.{ap, ap₂, sym, ◌∙◌, subst, arith, length-append, ⊎_elim, length-set, get_or-set_same, get_or-set_other}
use Rattle.std.proofs.lemmas.Bool.{cases_eq, eq-eqb, lt-ltb}
use Rattle.std.proofs.lemmas.Option.{slice_get_within}
use Rattle.sk_msg.specs.declared.content.Content.{Content}
use Rattle.sk_msg.specs.declared.content.Content.TheVariants as contents
use Rattle.sk_msg.specs.declared.entry.Entry.{Entry}
use Rattle.sk_msg.specs.declared.entry.Entry.TheVariants.{Got, Put, Hand, State as Entered, System as Judged, Begin, Done, End, Ask, Gone, Stray, Did, Fault}
use Rattle.sk_msg.specs.declared.state.State.{State}
use Rattle.sk_system.specs.View.{View}
use Rattle.sk_law.specs.declared.memory.Memory.{Memory}
use Rattle.sk_law.specs.declared.said.Said.{Said}
use Rattle.sk_law.specs.declared.setup.Setup.{Setup}
use Rattle.sk_law.specs.Past.{Past}
use Rattle.sk_law.specs.Growing.{GoesByEntries}
use Rattle.sk_law.specs.Order.{status_of, state_in, until_in, is_coordinated}
use Rattle.sk_law.specs.Readings.{state_of, state_after, got_from}
use Rattle.sk_law.specs.Links.{Seen, Taken, unseen, seen_after, take_in, of_peer, is_in_order, is_peer, required_by, workflow_in, is_among, own_name, comes_in_order}
use Rattle.sk_law.specs.declared.line.Line.{Line}
use Rattle.sk_law.specs.declared.tally.Tally.{Tally}
use Rattle.sk_law.specs.Kept.{Kept}
use Rattle.sk_law.specs.Coming.{comes, waits}
use Rattle.sk_law.specs.Tallies.{tally_after}
use Rattle.sk_law.specs.Tied.{Tied, all_of, seen_in, taken_in, no_line, line_after, heard_line, heard_lines, known_of, numbered, own_among, first_in, with_required, with_state, Needed, needed_of, bounds, limit_in, limit_after}
use Rattle.sk_law.proofs.Gots.{comes_is, required_more, status_same, status_other, may_from, opened_all}
use Rattle.sk_law.proofs.Bounds.{lowered_if}
use Rattle.sk_law.proofs.Bounds.{limit_in as limit_more}
use Rattle.sk_law.proofs.Ties.{not_same, changed_at, tied-add}
use Rattle.sk_law.proofs.Counting.{few-of}

-- ## May it come now

seen-state : (S : Setup) (tools : List (List ℕ)) (es : List Entry) (s : Seen) → (fold (seen_after S tools) s es).state ≡ fold state_after s.state es
seen-state S tools [] s = refl
seen-state S tools (e ∷ es) s = seen-state S tools es (seen_after S tools s e) ∙ ap (λ x. fold state_after x es) (one e)
  where
    one : (e : Entry) → (seen_after S tools s e).state ≡ state_after s.state e
    one (Got q m) = on (is_in_order S tools s q m)
      where
        on : (b : Bool) → (if b then take_in q m s else s).state ≡ s.state
        on true = refl
        on false = refl
    one (Put q m) = refl
    one (Hand q k r) = refl
    one (Entered to) = refl
    one (Judged to) = refl
    one (Begin k t) = refl
    one (Done k) = refl
    one (End k) = refl
    one (Ask c v) = refl
    one (Gone q r) = refl
    one (Stray k) = refl
    one (Did i c m) = refl
    one (Fault k) = refl

among : (S : Setup) (r : Option (List (List ℕ))) → unwrap_or (option_map (own_among S) r) false ≡ is_among (own_name S) r
among S None = refl
among S (Some names) = refl

pub comes-by : {S : Setup} (past : Past) {out : List ℕ} {tally : Tally} {lines : List Line} {view : View} {awaited : Option Bool} {limit : ℕ} (p : ℕ) (m : Content) (name : List ℕ) →
    Tied S past.memory.tools out past.journal tally lines view awaited limit → slice_get (S.names ++ past.memory.tools) p ≡ Some name →
    comes (waits S.coordinated tally.state (unwrap_or awaited false)) (nat_le (length S.names) p) name (slice_index_or lines p no_line).said m ≡ comes_in_order S past p m
comes-by {S} past {tally = tally} {awaited = awaited} p m name h named =
    let tools : List (List ℕ) = past.memory.tools in
    let s : Seen = seen_in S tools past.journal in
    let small : p < all_of S tools = subst (λ n. p < n) (length-append S.names tools) (slice_get_within (S.names ++ tools) p name named) in
    let state : tally.state ≡ s.state = ap (λ (t : Tally). t.state) h.tally_is ∙ sym (seen-state S tools past.journal unseen) in
    let known : unwrap_or awaited false ≡ is_among (own_name S) (required_by S s.taken) = ap (λ a. unwrap_or a false) h.awaited_is ∙ among S (required_by S s.taken) in
    ap₂ (λ w (l : Line). comes w (nat_le (length S.names) p) name l.said m) (ap₂ (waits S.coordinated) state known) (h.line p small)
    ∙ sym (comes_is S tools s p m name named)

-- ## What it changes

abbrev heard : ℕ → Content → Taken
heard q m = record { peer = q; message = m }

abbrev heard_if : Bool → ℕ → Content → List Taken → List Taken
heard_if b q m t = if b then t ++ heard q m ∷ [] else t

-- whom the simulation needs
required-got : (S : Setup) (b : Bool) (q : ℕ) (m : Content) (t : List Taken) (awaited : Option Bool) → awaited ≡ option_map (own_among S) (required_by S t) →
    required_by S (heard_if b q m t) ≡ option_or (first_in b awaited m) (required_by S t)
required-got S false q m t awaited h = refl
required-got S true q m t awaited h =
    required_more S t (heard q m) ∙ on (required_by S t) (workflow_in m) ∙ ap (λ a. option_or (if is_none a then workflow_in m else None) (required_by S t)) (sym h)
  where
    on : (r w : Option (List (List ℕ))) → option_or r w ≡ option_or (if is_none (option_map (own_among S) r) then w else None) r
    on None None = refl
    on None (Some names) = refl
    on (Some names) w = refl

view-required : (S : Setup) (first r : Option (List (List ℕ))) (view : View) → view.required ≡ option_map (numbered S.names) r →
    (with_required (option_map (numbered S.names) first) view).required ≡ option_map (numbered S.names) (option_or first r)
view-required S None r view h = h
view-required S (Some names) r view h = refl

awaited-required : (S : Setup) (first r : Option (List (List ℕ))) (awaited : Option Bool) → awaited ≡ option_map (own_among S) r →
    option_or (option_map (own_among S) first) awaited ≡ option_map (own_among S) (option_or first r)
awaited-required S None r awaited h = h
awaited-required S (Some names) r awaited h = refl

pub known-required : (numbers : Option (List (Option ℕ))) (view : View) → (with_required numbers view).known ≡ view.known
known-required None view = refl
known-required (Some names) view = refl

-- what a Status tells
required-state : (S : Setup) (b : Bool) (q : ℕ) (m : Content) (view : View) → (with_state S b q m view).required ≡ view.required
required-state S b q (contents.Status state until) view = on (b && is_peer S q)
  where
    on : (c : Bool) → (if c then record view { known = slice_set view.known q (Some state) } else view).required ≡ view.required
    on true = refl
    on false = refl
required-state S b q (contents.Hello name role address) view = refl
required-state S b q contents.Leave view = refl
required-state S b q (contents.NextStep at duration) view = refl
required-state S b q (contents.ServiceAdd service) view = refl
required-state S b q contents.ServicesEnd view = refl
required-state S b q (contents.Workflow names) view = refl
required-state S b q contents.Abort view = refl
required-state S b q (contents.Can x y) view = refl
required-state S b q (contents.Eth x y) view = refl
required-state S b q (contents.Lin x y) view = refl
required-state S b q (contents.LinResponse x y) view = refl
required-state S b q (contents.Publish x y) view = refl
required-state S b q (contents.Call x y z) view = refl
required-state S b q (contents.Reply w x y z) view = refl
required-state S b q (contents.Refuse reason) view = refl

-- the same as one change of the known states
abbrev known_by : Setup → Bool → ℕ → Option State → List (Option State) → List (Option State)
known_by S b q None known = known
known_by S b q (Some state) known = if b && is_peer S q then slice_set known q (Some state) else known

known-state : (S : Setup) (b : Bool) (q : ℕ) (m : Content) (view : View) → (with_state S b q m view).known ≡ known_by S b q (state_in m) view.known
known-state S b q (contents.Status state until) view = on (b && is_peer S q)
  where
    on : (c : Bool) → (if c then record view { known = slice_set view.known q (Some state) } else view).known ≡ (if c then slice_set view.known q (Some state) else view.known)
    on true = refl
    on false = refl
known-state S b q (contents.Hello name role address) view = refl
known-state S b q contents.Leave view = refl
known-state S b q (contents.NextStep at duration) view = refl
known-state S b q (contents.ServiceAdd service) view = refl
known-state S b q contents.ServicesEnd view = refl
known-state S b q (contents.Workflow names) view = refl
known-state S b q contents.Abort view = refl
known-state S b q (contents.Can x y) view = refl
known-state S b q (contents.Eth x y) view = refl
known-state S b q (contents.Lin x y) view = refl
known-state S b q (contents.LinResponse x y) view = refl
known-state S b q (contents.Publish x y) view = refl
known-state S b q (contents.Call x y z) view = refl
known-state S b q (contents.Reply w x y z) view = refl
known-state S b q (contents.Refuse reason) view = refl

known-long : (S : Setup) (b : Bool) (q : ℕ) (o : Option State) (known : List (Option State)) → length (known_by S b q o known) ≡ length known
known-long S b q None known = refl
known-long S b q (Some state) known = on (b && is_peer S q)
  where
    on : (c : Bool) → length (if c then slice_set known q (Some state) else known) ≡ length known
    on true = length-set known q (Some state)
    on false = refl

-- the last known states, where a message came
known-got : (law : GoesByEntries) (S : Setup) (b : Bool) (q : ℕ) (m : Content) (t : List Taken) (own : State) (known : List (Option State)) → length known ≡ length S.names →
    ((p : ℕ) → p < length S.names → slice_index_or known p None ≡ known_of S t own p) →
    (p : ℕ) → p < length S.names → slice_index_or (known_by S b q (state_in m) known) p None ≡ known_of S (heard_if b q m t) own p
known-got law S false q m t own known long h p lt = on (state_in m) ∙ h p lt
  where
    on : (o : Option State) → slice_index_or (known_by S false q o known) p None ≡ slice_index_or known p None
    on None = refl
    on (Some state) = refl
known-got law S true q m t own known long h p lt = ⊎_elim here there (cases_eq q p)
  where
    -- of the sender
    mine : (o : Option State) (c : Bool) → (p == S.number) ≡ c → q ≡ p →
        slice_index_or (known_by S true q o known) p None ≡ (if c then Some own else option_or o (status_of (of_peer p t)))
    mine None true e same = h p lt ∙ ap (λ (b : Bool). if b then Some own else status_of (of_peer p t)) e
    mine None false e same = h p lt ∙ ap (λ (b : Bool). if b then Some own else status_of (of_peer p t)) e
    mine (Some state) true e same =
        ap (λ (b : Bool). slice_index_or (if b then slice_set known q (Some state) else known) p None)
        (subst (λ r. is_peer S r ≡ false) (sym same) (ap₂ (λ a b. a && not b) (lt-ltb p (length S.names) lt) e))
        ∙ h p lt ∙ ap (λ (b : Bool). if b then Some own else status_of (of_peer p t)) e
    mine (Some state) false e same =
        ap (λ (b : Bool). slice_index_or (if b then slice_set known q (Some state) else known) p None)
        (subst (λ r. is_peer S r ≡ true) (sym same) (ap₂ (λ a b. a && not b) (lt-ltb p (length S.names) lt) e))
        ∙ subst (λ r. slice_index_or (slice_set known r (Some state)) p None ≡ Some state) (sym same) (get_or-set_same known p (Some state) None (subst (λ n. p < n) (sym long) lt))

    here : q ≡ p → slice_index_or (known_by S true q (state_in m) known) p None ≡ known_of S (t ++ heard q m ∷ []) own p
    here same = mine (state_in m) (p == S.number) refl same
        ∙ ap (λ s. if p == S.number then Some own else s) (sym (subst (λ r. status_of (of_peer p (t ++ heard r m ∷ [])) ≡ option_or (state_in m) (status_of (of_peer p t))) (sym same) (status_same law p m t)))

    -- of another one
    other : (o : Option State) → (q ≡ p → ⊥) → slice_index_or (known_by S true q o known) p None ≡ slice_index_or known p None
    other None ne = refl
    other (Some state) ne = on (is_peer S q)
      where
        on : (c : Bool) → slice_index_or (if c then slice_set known q (Some state) else known) p None ≡ slice_index_or known p None
        on true = get_or-set_other known q p (Some state) None (λ e. ne (sym e))
        on false = refl

    there : (q ≡ p → ⊥) → slice_index_or (known_by S true q (state_in m) known) p None ≡ known_of S (t ++ heard q m ∷ []) own p
    there ne = other (state_in m) ne ∙ h p lt ∙ ap (λ s. if p == S.number then Some own else s) (sym (status_other q p m t ne))

-- the limit
no-bound : (b : Bool) (limit : ℕ) → lowered_if b None limit ≡ limit
no-bound true limit = refl
no-bound false limit = refl

limit-step : (S : Setup) (b : Bool) (q : ℕ) (c : Bool) (m : Content) (limit : ℕ) → lowered_if (b && bounds S q c) (until_in m) limit ≡ limit_after S b q c m limit
limit-step S b q c (contents.Status state until) limit = on b (bounds S q c) (until == 0)
  where
    on : (x y z : Bool) → lowered_if (x && y) (if z then None else Some until) limit ≡ (if x && (y && not z) then min limit until else limit)
    on true true true = refl
    on true true false = refl
    on true false z = refl
    on false y z = refl
limit-step S b q c (contents.Hello name role address) limit = no-bound (b && bounds S q c) limit
limit-step S b q c contents.Leave limit = no-bound (b && bounds S q c) limit
limit-step S b q c (contents.NextStep at duration) limit = no-bound (b && bounds S q c) limit
limit-step S b q c (contents.ServiceAdd service) limit = no-bound (b && bounds S q c) limit
limit-step S b q c contents.ServicesEnd limit = no-bound (b && bounds S q c) limit
limit-step S b q c (contents.Workflow names) limit = no-bound (b && bounds S q c) limit
limit-step S b q c contents.Abort limit = no-bound (b && bounds S q c) limit
limit-step S b q c (contents.Can x y) limit = no-bound (b && bounds S q c) limit
limit-step S b q c (contents.Eth x y) limit = no-bound (b && bounds S q c) limit
limit-step S b q c (contents.Lin x y) limit = no-bound (b && bounds S q c) limit
limit-step S b q c (contents.LinResponse x y) limit = no-bound (b && bounds S q c) limit
limit-step S b q c (contents.Publish x y) limit = no-bound (b && bounds S q c) limit
limit-step S b q c (contents.Call x y z) limit = no-bound (b && bounds S q c) limit
limit-step S b q c (contents.Reply w x y z) limit = no-bound (b && bounds S q c) limit
limit-step S b q c (contents.Refuse reason) limit = no-bound (b && bounds S q c) limit

limit-got : (S : Setup) (tools : List (List ℕ)) (es : List Entry) (q : ℕ) (m : Content) (b : Bool) → is_in_order S tools (seen_in S tools es) q m ≡ b →
    limit_in S (heard_if b q m (taken_in S tools es)) ≡ limit_after S b q (is_coordinated (of_peer q (taken_in S tools es))) m (limit_in S (taken_in S tools es))
limit-got S tools es q m true e =
    limit_more S (taken_in S tools es) q m _ _ (opened_all S tools es unseen (λ p. record { nothing = λ f. refl })) (may_from S tools (seen_in S tools es) q m e)
    ∙ limit-step S true q (is_coordinated (of_peer q (taken_in S tools es))) m (limit_in S (taken_in S tools es))
limit-got S tools es q m false e = limit-step S false q (is_coordinated (of_peer q (taken_in S tools es))) m (limit_in S (taken_in S tools es))

pub tied-got : {S : Setup} {tools : List (List ℕ)} {out : List ℕ} {es : List Entry} {tally : Tally} {lines : List Line} {view : View} {awaited : Option Bool} {limit : ℕ}
    (law : GoesByEntries) (b : Bool) (q : ℕ) (m : Content) (first : Option (List (List ℕ))) (tally' : Tally) (lines' : List Line) (view' : View) (awaited' : Option Bool) (limit' : ℕ) (all : List Entry) →
    Tied S tools out es tally lines view awaited limit → all ≡ es ++ Got q m ∷ [] → q < all_of S tools →
    b ≡ is_in_order S tools (seen_in S tools es) q m →
    first ≡ first_in b awaited m →
    tally' ≡ tally_after tally (Got q m) →
    lines' ≡ heard_lines b q m lines →
    view' ≡ with_state S b q m (with_required (option_map (numbered S.names) first) view) →
    awaited' ≡ option_or (option_map (own_among S) first) awaited →
    limit' ≡ limit_after S b q (slice_index_or lines q no_line).said.coordinated m limit →
    Tied S tools out all tally' lines' view' awaited' limit'
tied-got {S} {tools} {out} {es} {tally} {lines} {view} {awaited} {limit} law b q m first tally' lines' view' awaited' limit' all h made small comes firsts counts lined viewed awaits limits =
    let t : List Taken = taken_in S tools es in
    let req : required_by S (heard_if b q m t) ≡ option_or first (required_by S t) =
    required-got S b q m t awaited h.awaited_is ∙ ap (λ f. option_or f (required_by S t)) (sym firsts) in
    tied-add law (Got q m) tally' lines' view' awaited' limit' all (heard_if b q m t) h made small
    (ap (λ (c : Bool). heard_if c q m t) comes)
    counts
    (ap length lined ∙ length-set lines q new ∙ h.all_lines)
    (λ p lt. subst (λ ls. slice_index_or ls p no_line ≡ line_after (is_in_order S tools (seen_in S tools es) q m) p (slice_index_or lines p no_line) (Got q m)) (sym lined)
    (subst (λ (c : Bool). slice_index_or (heard_lines b q m lines) p no_line ≡ line_after c p (slice_index_or lines p no_line) (Got q m)) comes
    (changed_at lines q new no_line (λ r l. l ≡ line_after b r (slice_index_or lines r no_line) (Got q m)) (subst (λ n. q < n) (sym h.all_lines) small)
    (ap (λ (c : Bool). if c then new else slice_index_or lines q no_line) (sym (eq-eqb q q refl)))
    (λ r ne. sym (other r (slice_index_or lines r no_line) (λ f. ne (sym f)))) p)))
    (knowns ∙ known-long S b q (state_in m) view.known ∙ h.all_known)
    (λ p lt. ap (λ ks. slice_index_or ks p None) known_is ∙ known-got law S b q m t (state_of es) view.known h.all_known h.known p lt)
    (ap (λ (v : View). v.required) viewed ∙ required-state S b q m (with_required (option_map (numbered S.names) first) view) ∙ view-required S first (required_by S t) view h.required
    ∙ ap (option_map (numbered S.names)) (sym req))
    (awaits ∙ awaited-required S first (required_by S t) awaited h.awaited_is ∙ ap (option_map (own_among S)) (sym req))
    (limits ∙ ap₂ (λ (s : Said) n. limit_after S b q s.coordinated m n) (ap (λ (l : Line). l.said) (h.line q small)) h.limit_is ∙ sym (limit-got S tools es q m b (sym comes)))
  where
    new : Line
    new = heard_line b m (slice_index_or lines q no_line)

    other : (p : ℕ) (l : Line) → (q ≡ p → ⊥) → line_after b p l (Got q m) ≡ l
    other p l ne = ap (λ (c : Bool). if c then heard_line b m l else l) (not_same q p ne)

    known_is : view'.known ≡ known_by S b q (state_in m) view.known
    known_is = ap (λ (v : View). v.known) viewed ∙ known-state S b q m (with_required (option_map (numbered S.names) first) view)
        ∙ ap (known_by S b q (state_in m)) (known-required (option_map (numbered S.names) first) view)

    knowns : length view'.known ≡ length (known_by S b q (state_in m) view.known)
    knowns = ap length known_is

-- so few were got that one more can be counted
pub few-got : {S : Setup} {tools : List (List ℕ)} {out : List ℕ} {es : List Entry} {tally : Tally} {lines : List Line} {view : View} {awaited : Option Bool} {limit : ℕ} (q n : ℕ) →
    Tied S tools out es tally lines view awaited limit → q < all_of S tools → length es < n → (slice_index_or lines q no_line).got < n
few-got {es = es} q n h small le = subst (λ (l : Line). l.got < n) (sym (h.line q small)) (let l = few-of (got_from q) es in omega arith)

-- the numbers of the names, and whether the own one is among them
pub numbers-of : (S : Setup) (o : Option (List (List ℕ))) → option_map (λ (n : Needed). n.numbers) (option_map (needed_of S) o) ≡ option_map (numbered S.names) o
numbers-of S None = refl
numbers-of S (Some names) = refl

pub own-of : (S : Setup) (o : Option (List (List ℕ))) → option_map (λ (n : Needed). n.own) (option_map (needed_of S) o) ≡ option_map (own_among S) o
own-of S None = refl
own-of S (Some names) = refl

-- ## Where memory is refused

-- what a clause says of Err
pub on_err : {X E P : Type 0} (r : Result X E) → P → OnErr r P
on_err (Ok x) p = tt
on_err (Err e) p = p

-- what a journal stands for, by its parts
abbrev pub kept : Setup → Memory → List ℕ → List Entry → Kept
kept setup memory out es = record { setup = setup; past = record { journal = es; memory = memory }; out = out }
