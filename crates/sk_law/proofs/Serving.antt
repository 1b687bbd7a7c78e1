-- What the own services of a kept journal are at.
use Rattle.std.specs.Prelude.{◌≡◌, refl, ℕ, zero, suc, ◌+◌, ◌<◌, ◌≤◌, ◌==◌, ◌&&◌, Bool, true, false, List, [], ◌∷◌, ◌++◌, length, map, filter, Option, Some, None, IsTrue, slice_index_or, slice_set, Result, Ok, Err, OnOk, cond, if◌then◌else◌}
use Rattle.std.specs.List.{list_all}
use Rattle.std.proofs.Common.{ap, sym, ◌∙◌, subst, arith, length-append, append-nil}
use Rattle.std.proofs.lemmas.List.Sums.{fold-append}
use Rattle.std.proofs.lemmas.Bool.{and_from, and_parts, eqb-true}
use Rattle.std.proofs.lemmas.List.Folds.{list_all-append}
use Rattle.sk_msg.specs.declared.content.Content.{Content}
use Rattle.sk_msg.specs.declared.content.Content.TheVariants as contents
use Rattle.sk_msg.specs.declared.bus.LinFrame.{LinFrame}
use Rattle.sk_msg.specs.declared.bus.LinResponse.{LinResponse}
use Rattle.sk_msg.specs.declared.head.Head.{Head}
use Rattle.sk_msg.specs.Rules.{is_call, is_head, is_message}
use Rattle.sk_base.specs.Ranges.{is_payload}
use Rattle.sk_msg.specs.declared.service.Service.{Service}
use Rattle.sk_msg.specs.Matching.{match_services, matching}
use Rattle.sk_pubsub.specs.Announcing.{are_numbered, ids, receivers_of}
use Rattle.sk_rpc.specs.OpenCalls.{call_of, has_call, opened}
use Rattle.sk_rpc.specs.declared.open_call.OpenCall.{OpenCall}
use Rattle.sk_law.specs.declared.memory.ServiceState.{ServiceState}
use Rattle.sk_law.specs.declared.memory.ServiceState.TheVariants as states
use Rattle.sk_law.specs.Counted.{are_calls, calls_made}
use Rattle.sk_law.specs.Receivers.{admits, changed, received, with_noted, noted}
use Rattle.sk_law.specs.Serving.{with_frame, with_call, all_noted, takes, takers_in}

-- ## One item changed

pub changed-some : {X : Type 0} (f : X → X) (i : ℕ) (xs : List X) (d : X) → i < length xs → changed f i xs ≡ slice_set xs i (f (slice_index_or xs i d))
changed-some f i [] d lt = absurd (omega arith)
changed-some f zero (x ∷ xs) d lt = refl
changed-some f (suc i) (x ∷ xs) d lt = ap (λ ys. x ∷ ys) (changed-some f i xs d (omega arith))

pub changed-past : {X : Type 0} (f : X → X) (i : ℕ) (xs : List X) → length xs ≤ i → changed f i xs ≡ xs
changed-past f i [] le = refl
changed-past f zero (x ∷ xs) le = absurd (omega arith)
changed-past f (suc i) (x ∷ xs) le = ap (λ ys. x ∷ ys) (changed-past f i xs (omega arith))

-- the item of this number is this, and becomes that
pub changed-by : {X : Type 0} (f : X → X) (i : ℕ) (xs : List X) (x y : X) → i < length xs → x ≡ slice_index_or xs i x → y ≡ f x → slice_set xs i y ≡ changed f i xs
changed-by f i xs x y lt is becomes = ap (slice_set xs i) (becomes ∙ ap f is) ∙ sym (changed-some f i xs x lt)

-- what a clause says of Ok
pub on_ok_to : {X E P Q : Type 0} (r : Result X E) → OnOk r P → (P → Q) → OnOk r Q
on_ok_to (Ok x) p step = step p
on_ok_to (Err e) p step = tt

-- what a change keeps of each item holds of each item behind it
pub changed-keeps : {X : Type 0} (P : X → Type 0) (f : X → X) (d : X) → ((x : X) → P x → P (f x)) → (i : ℕ) (xs : List X) →
    ((s : ℕ) → P (slice_index_or xs s d)) → (s : ℕ) → P (slice_index_or (changed f i xs) s d)
changed-keeps P f d step i [] h s = h s
changed-keeps P f d step zero (x ∷ xs) h zero = step x (h zero)
changed-keeps P f d step zero (x ∷ xs) h (suc s) = h (suc s)
changed-keeps P f d step (suc i) (x ∷ xs) h zero = h zero
changed-keeps P f d step (suc i) (x ∷ xs) h (suc s) = changed-keeps P f d step i xs (λ r. h (suc r)) s

-- and one that is put in
pub changed-to : {X : Type 0} (P : X → Type 0) (y d : X) → P y → (i : ℕ) (xs : List X) →
    ((s : ℕ) → P (slice_index_or xs s d)) → (s : ℕ) → P (slice_index_or (changed (λ x. y) i xs) s d)
changed-to P y d p i xs h s = changed-keeps P (λ x. y) d (λ x q. p) i xs h s

-- ## How many calls were made

calls-frame : (frame : LinFrame) (at : ServiceState) → calls_made (with_frame frame at) ≡ calls_made at
calls-frame frame (states.Can can) = refl
calls-frame frame (states.Ethernet active) = refl
calls-frame frame (states.Lin lin) = refl
calls-frame frame (states.Publisher publisher) = refl
calls-frame frame states.Subscriber = refl
calls-frame frame (states.Server calls) = refl
calls-frame frame (states.Client made) = refl

pub received-lin : (p : ℕ) (head : Head) (frame : LinFrame) (at : ServiceState) → received p (contents.Lin head frame) at ≡ with_frame frame at
received-lin p head frame (states.Can can) = refl
received-lin p head frame (states.Ethernet active) = refl
received-lin p head frame (states.Lin lin) = refl
received-lin p head frame (states.Publisher publisher) = refl
received-lin p head frame states.Subscriber = refl
received-lin p head frame (states.Server calls) = refl
received-lin p head frame (states.Client made) = refl

pub received-call : (p : ℕ) (head : Head) (call : ℕ) (payload : List ℕ) (at : ServiceState) →
    received p (contents.Call head call payload) at ≡ with_call (call_of p head.service call) at
received-call p head call payload (states.Can can) = refl
received-call p head call payload (states.Ethernet active) = refl
received-call p head call payload (states.Lin lin) = refl
received-call p head call payload (states.Publisher publisher) = refl
received-call p head call payload states.Subscriber = refl
received-call p head call payload (states.Server calls) = refl
received-call p head call payload (states.Client made) = refl

calls-received : (p : ℕ) (m : Content) (at : ServiceState) → calls_made (received p m at) ≡ calls_made at
calls-received p (contents.Lin head frame) at = ap calls_made (received-lin p head frame at) ∙ calls-frame frame at
calls-received p (contents.Call head call payload) (states.Can can) = refl
calls-received p (contents.Call head call payload) (states.Ethernet active) = refl
calls-received p (contents.Call head call payload) (states.Lin lin) = refl
calls-received p (contents.Call head call payload) (states.Publisher publisher) = refl
calls-received p (contents.Call head call payload) states.Subscriber = refl
calls-received p (contents.Call head call payload) (states.Server calls) = refl
calls-received p (contents.Call head call payload) (states.Client made) = refl
calls-received p (contents.Hello name role address) at = refl
calls-received p contents.Leave at = refl
calls-received p (contents.NextStep time duration) at = refl
calls-received p (contents.ServiceAdd service) at = refl
calls-received p contents.ServicesEnd at = refl
calls-received p (contents.Status state until) at = refl
calls-received p (contents.Workflow names) at = refl
calls-received p contents.Abort at = refl
calls-received p (contents.Can x y) at = refl
calls-received p (contents.Eth x y) at = refl
calls-received p (contents.LinResponse x y) at = refl
calls-received p (contents.Publish x y) at = refl
calls-received p (contents.Reply w x y z) at = refl
calls-received p (contents.Refuse reason) at = refl

pub calls-noted : (p service : ℕ) (response : LinResponse) (at : ServiceState) → calls_made (with_noted p service response at) ≡ calls_made at
calls-noted p service response (states.Can can) = refl
calls-noted p service response (states.Ethernet active) = refl
calls-noted p service response (states.Lin lin) = refl
calls-noted p service response (states.Publisher publisher) = refl
calls-noted p service response states.Subscriber = refl
calls-noted p service response (states.Server calls) = refl
calls-noted p service response (states.Client made) = refl

-- of the service of each number
abbrev pub calls_at : List ServiceState → ℕ → ℕ
calls_at services s = calls_made (slice_index_or services s states.Subscriber)

calls-changed : (f : ServiceState → ServiceState) → ((at : ServiceState) → calls_made (f at) ≡ calls_made at) → (i : ℕ) (xs : List ServiceState) (s : ℕ) →
    calls_at (changed f i xs) s ≡ calls_at xs s
calls-changed f h i [] s = refl
calls-changed f h zero (x ∷ xs) zero = h x
calls-changed f h zero (x ∷ xs) (suc s) = refl
calls-changed f h (suc i) (x ∷ xs) zero = refl
calls-changed f h (suc i) (x ∷ xs) (suc s) = calls-changed f h i xs s

pub calls-receive : (p : ℕ) (m : Content) (i : ℕ) (xs : List ServiceState) (s : ℕ) → calls_at (changed (received p m) i xs) s ≡ calls_at xs s
calls-receive p m i xs s = calls-changed (received p m) (calls-received p m) i xs s

pub calls-note : (p service : ℕ) (response : LinResponse) (i : ℕ) (xs : List ServiceState) (s : ℕ) → calls_at (changed (with_noted p service response) i xs) s ≡ calls_at xs s
calls-note p service response i xs s = calls-changed (with_noted p service response) (calls-noted p service response) i xs s

-- one number more
pub noted-more : (p service : ℕ) (response : LinResponse) (numbers : List ℕ) (number : ℕ) (xs : List ServiceState) →
    all_noted p service response (numbers ++ number ∷ []) xs ≡ changed (with_noted p service response) number (all_noted p service response numbers xs)
noted-more p service response numbers number xs = fold-append (λ at i. changed (with_noted p service response) i at) xs numbers (number ∷ [])

pub calls-all : (p service : ℕ) (response : LinResponse) (numbers : List ℕ) (xs : List ServiceState) (s : ℕ) → calls_at (all_noted p service response numbers xs) s ≡ calls_at xs s
calls-all p service response [] xs s = refl
calls-all p service response (i ∷ numbers) xs s =
    calls-all p service response numbers (changed (with_noted p service response) i xs) s ∙ calls-note p service response i xs s

pub calls-kept : (p service : ℕ) (response : LinResponse) (numbers : List ℕ) (xs now : List ServiceState) → now ≡ all_noted p service response numbers xs →
    (s : ℕ) → calls_at now s ≡ calls_at xs s
calls-kept p service response numbers xs now e s = ap (λ v. calls_at v s) e ∙ calls-all p service response numbers xs s

-- ## The calls that servers have still to answer

-- those of the service of each number
abbrev pub are_at : List ServiceState → ℕ → Bool
are_at services s = are_calls (slice_index_or services s states.Subscriber)

-- a call more, which a message brought
are-opened : (call : OpenCall) (calls : List OpenCall) → is_call call.call ≡ true → list_all (λ one. is_call one.call) calls ≡ true → list_all (λ one. is_call one.call) (opened call calls) ≡ true
are-opened call calls e h = on (has_call call calls)
  where
    on : (b : Bool) → list_all (λ one. is_call one.call) (if b then calls else calls ++ call ∷ []) ≡ true
    on true = h
    on false = list_all-append (λ one. is_call one.call) calls (call ∷ []) ∙ and_from (list_all (λ one. is_call one.call) calls) (is_call call.call && true) h (and_from (is_call call.call) true e refl)

are-called : (call : OpenCall) (at : ServiceState) → is_call call.call ≡ true → are_calls at ≡ true → are_calls (with_call call at) ≡ true
are-called call (states.Can can) e h = refl
are-called call (states.Ethernet active) e h = refl
are-called call (states.Lin lin) e h = refl
are-called call (states.Publisher publisher) e h = refl
are-called call states.Subscriber e h = refl
are-called call (states.Server calls) e h = are-opened call calls e h
are-called call (states.Client made) e h = refl

are-framed : (frame : LinFrame) (at : ServiceState) → are_calls at ≡ true → are_calls (with_frame frame at) ≡ true
are-framed frame (states.Can can) h = refl
are-framed frame (states.Ethernet active) h = refl
are-framed frame (states.Lin lin) h = refl
are-framed frame (states.Publisher publisher) h = refl
are-framed frame states.Subscriber h = refl
are-framed frame (states.Server calls) h = h
are-framed frame (states.Client made) h = refl

number-of : (head : Head) (call : ℕ) (payload : List ℕ) → IsTrue (is_message (contents.Call head call payload)) → is_call call ≡ true
unfolding is_message
number-of head call payload rules = (and_parts (is_call call) (is_payload payload) (and_parts (is_head head) (is_call call && is_payload payload) rules).1).0

are-received : (p : ℕ) (m : Content) → IsTrue (is_message m) → (at : ServiceState) → are_calls at ≡ true → are_calls (received p m at) ≡ true
are-received p (contents.Lin head frame) rules at h = ap are_calls (received-lin p head frame at) ∙ are-framed frame at h
are-received p (contents.Call head call payload) rules at h = ap are_calls (received-call p head call payload at) ∙ are-called (call_of p head.service call) at (number-of head call payload rules) h
are-received p (contents.Hello name role address) rules at h = h
are-received p contents.Leave rules at h = h
are-received p (contents.NextStep time duration) rules at h = h
are-received p (contents.ServiceAdd service) rules at h = h
are-received p contents.ServicesEnd rules at h = h
are-received p (contents.Status state until) rules at h = h
are-received p (contents.Workflow names) rules at h = h
are-received p contents.Abort rules at h = h
are-received p (contents.Can x y) rules at h = h
are-received p (contents.Eth x y) rules at h = h
are-received p (contents.LinResponse x y) rules at h = h
are-received p (contents.Publish x y) rules at h = h
are-received p (contents.Reply w x y z) rules at h = h
are-received p (contents.Refuse reason) rules at h = h

pub are-receive : (p : ℕ) (m : Content) (i : ℕ) (xs : List ServiceState) → IsTrue (is_message m) → ((s : ℕ) → are_at xs s ≡ true) → (s : ℕ) → are_at (changed (received p m) i xs) s ≡ true
are-receive p m i xs rules all = changed-keeps (λ at. are_calls at ≡ true) (received p m) states.Subscriber (are-received p m rules) i xs all

are-noted : (p service : ℕ) (response : LinResponse) (at : ServiceState) → are_calls at ≡ true → are_calls (with_noted p service response at) ≡ true
are-noted p service response (states.Can can) h = refl
are-noted p service response (states.Ethernet active) h = refl
are-noted p service response (states.Lin lin) h = refl
are-noted p service response (states.Publisher publisher) h = refl
are-noted p service response states.Subscriber h = refl
are-noted p service response (states.Server calls) h = h
are-noted p service response (states.Client made) h = refl

pub are-all : (p service : ℕ) (response : LinResponse) (numbers : List ℕ) (xs now : List ServiceState) → now ≡ all_noted p service response numbers xs → ((s : ℕ) → are_at xs s ≡ true) →
    (s : ℕ) → are_at now s ≡ true
are-all p service response numbers xs now e all s = ap (λ v. are_at v s) e ∙ on numbers xs all s
  where
    on : (numbers : List ℕ) (xs : List ServiceState) → ((s : ℕ) → are_at xs s ≡ true) → (s : ℕ) → are_at (all_noted p service response numbers xs) s ≡ true
    on [] xs all s = all s
    on (i ∷ numbers) xs all s = on numbers (changed (with_noted p service response) i xs) (changed-keeps (λ at. are_calls at ≡ true) (with_noted p service response) states.Subscriber (are-noted p service response) i xs all) s

-- ## Of which services a message is for

-- a filter over what a map gives
filter-ids : (test : ℕ → Bool) (services : List Service) → filter test (ids services) ≡ ids (filter (λ s. test s.id) services)
filter-ids test [] = refl
filter-ids test (s ∷ services) = on (test s.id) (filter-ids test services)
  where
    on : (b : Bool) → filter test (ids services) ≡ ids (filter (λ r. test r.id) services) →
        cond b (s.id ∷ filter test (ids services)) (filter test (ids services)) ≡ ids (cond b (s ∷ filter (λ r. test r.id) services) (filter (λ r. test r.id) services))
    on true e = ap (λ xs. s.id ∷ xs) e
    on false e = e

pub takers-are : (m : Content) (services : List ServiceState) (own : List Service) (other : Service) →
    takers_in m services (ids (matching own other)) ≡ map (λ s. s.id) (filter (λ s. admits m (slice_index_or services s.id states.Subscriber)) (matching own other))
takers-are m services own other = filter-ids (takes m services) (matching own other)

-- one number more
pub takers-more : (m : Content) (services : List ServiceState) (numbers : List ℕ) (number : ℕ) (b : Bool) → b ≡ takes m services number →
    takers_in m services (numbers ++ number ∷ []) ≡ takers_in m services numbers ++ (if b then number ∷ [] else [])
takers-more m services [] number b e = ap (λ (c : Bool). if c then number ∷ [] else []) (sym e)
takers-more m services (n ∷ numbers) number b e = on (takes m services n) (takers-more m services numbers number b e)
  where
    on : (c : Bool) → takers_in m services (numbers ++ number ∷ []) ≡ takers_in m services numbers ++ (if b then number ∷ [] else []) →
        cond c (n ∷ takers_in m services (numbers ++ number ∷ [])) (takers_in m services (numbers ++ number ∷ []))
        ≡ cond c (n ∷ takers_in m services numbers) (takers_in m services numbers) ++ (if b then number ∷ [] else [])
    on true e = ap (λ xs. n ∷ xs) e
    on false e = e

-- ## A response is noted

module _ (p service : ℕ) (response : LinResponse) (other : Service) where
  abbrev with : ServiceState → ServiceState
  with = with_noted p service response

  -- behind these, nothing changes
  all_past : (k : ℕ) (own : List Service) (xs : List ServiceState) → IsTrue (are_numbered k own) → length xs ≤ k →
      all_noted p service response (ids (matching own other)) xs ≡ xs
  all_past k [] xs numbered le = refl
  all_past k (o ∷ own) xs numbered le = on (match_services o other) (all_past (k + 1) own xs parts.1 (omega arith))
    where
      parts : ((o.id == k) ≡ true) × (are_numbered (k + 1) own ≡ true)
      parts = and_parts (o.id == k) (are_numbered (k + 1) own) numbered

      on : (b : Bool) → all_noted p service response (ids (matching own other)) xs ≡ xs →
          all_noted p service response (ids (cond b (o ∷ matching own other) (matching own other))) xs ≡ xs
      on true rest = ap (all_noted p service response (ids (matching own other))) (changed-past with o.id xs (let e = eqb-true o.id k parts.0 in omega arith)) ∙ rest
      on false rest = rest

  -- one item is behind these
  changed-behind : (before after : List ServiceState) (at : ServiceState) (i : ℕ) → i ≡ length before →
      changed with i (before ++ at ∷ after) ≡ before ++ with at ∷ after
  changed-behind [] after at i e = subst (λ n. changed with n (at ∷ after) ≡ with at ∷ after) (sym e) refl
  changed-behind (x ∷ before) after at zero e = absurd (omega arith)
  changed-behind (x ∷ before) after at (suc i) e = ap (λ xs. x ∷ xs) (changed-behind before after at i (omega arith))

  one-more : (before after : List ServiceState) (at : ServiceState) → before ++ at ∷ after ≡ (before ++ at ∷ []) ++ after
  one-more [] after at = refl
  one-more (x ∷ before) after at = ap (λ xs. x ∷ xs) (one-more before after at)

  noted-behind : (k : ℕ) (own : List Service) (before after : List ServiceState) → IsTrue (are_numbered k own) → length before ≡ k →
      all_noted p service response (ids (matching own other)) (before ++ after) ≡ before ++ noted (Some other) p service response own after
  noted-behind k [] before after numbered e = ap (λ xs. before ++ xs) (none after)
    where
      none : (xs : List ServiceState) → xs ≡ noted (Some other) p service response [] xs
      none [] = refl
      none (x ∷ xs) = refl
  noted-behind k (o ∷ own) before [] numbered e =
      ap (all_noted p service response (ids (matching (o ∷ own) other))) (append-nil before)
      ∙ all_past k (o ∷ own) before numbered (omega arith) ∙ sym (append-nil before)
  noted-behind k (o ∷ own) before (at ∷ after) numbered e = on (match_services o other)
      (λ x. ap (all_noted p service response (ids (matching own other))) (one-more before after x)
      ∙ noted-behind (k + 1) own (before ++ x ∷ []) after parts.1 (length-append before (x ∷ []) ∙ (let f : length before + 1 ≡ k + 1 = omega arith in f))
      ∙ sym (one-more before (noted (Some other) p service response own after) x))
    where
      parts : ((o.id == k) ≡ true) × (are_numbered (k + 1) own ≡ true)
      parts = and_parts (o.id == k) (are_numbered (k + 1) own) numbered

      rest : List ServiceState → List ServiceState
      rest xs = all_noted p service response (ids (matching own other)) xs

      on : (b : Bool) → ((x : ServiceState) → rest (before ++ x ∷ after) ≡ before ++ x ∷ noted (Some other) p service response own after) →
          all_noted p service response (ids (cond b (o ∷ matching own other) (matching own other))) (before ++ at ∷ after)
          ≡ before ++ (if b then with at else at) ∷ noted (Some other) p service response own after
      on true go = ap rest (changed-behind before after at o.id (let f = eqb-true o.id k parts.0 in omega arith)) ∙ go (with at)
      on false go = go at

-- all that match, by their numbers
pub noted-all : (p service : ℕ) (response : LinResponse) (own : List Service) (o : Option Service) (xs : List ServiceState) → IsTrue (are_numbered 0 own) →
    all_noted p service response (receivers_of own o) xs ≡ noted o p service response own xs
noted-all p service response own None xs numbered = refl
noted-all p service response own (Some other) xs numbered = noted-behind p service response other 0 own [] xs numbered refl
