-- No own service answers the participant itself.
use Rattle.std.specs.Prelude.{◌≡◌, refl, ℕ, ◌==◌, Bool, true, false, not, ◌&&◌, ◌||◌, List, [], ◌∷◌, ◌++◌, Option, Some, None, zero, suc, slice_get, if◌then◌else◌}
use Rattle.std.specs.List.{list_all, filter}
use Rattle.std.proofs.Common.{ap, sym, ◌∙◌, inl, inr}
use Rattle.std.proofs.lemmas.Bool.{and_parts, and_from, cases_Bool, cond-true, cond-false, eqb-true}
use Rattle.std.proofs.lemmas.List.Folds.{list_all-append}
use Rattle.std.proofs.lemmas.Option.{none-some, same_Some}
use Rattle.sk_msg.specs.declared.action.Action.{Action}
use Rattle.sk_msg.specs.declared.action.Action.TheVariants.{CanBaud, CanStart, CanStop, CanReset, CanSleep, CanSend, EthActivate, EthDeactivate, EthSend, LinInit, LinSetResponse, LinHeader, LinSendFrame, LinSleep, LinWakeup, Publish, Call, Submit, Ask, PauseFor}
use Rattle.sk_msg.specs.declared.content.Content.{Content}
use Rattle.sk_msg.specs.declared.content.Content.TheVariants as contents
use Rattle.sk_msg.specs.declared.bus.LinResponse.{LinResponse}
use Rattle.sk_msg.specs.declared.service.Service.{Service}
use Rattle.sk_msg.specs.declared.service.ServiceKind.{ServiceKind}
use Rattle.sk_msg.specs.declared.service.ServiceKind.TheVariants as kinds
use Rattle.sk_can.specs.Can.{Can, moved, can_baud, can_start, can_stop, can_reset, can_sleep, is_started}
use Rattle.sk_can.specs.declared.state.CanState.{CanState}
use Rattle.sk_msg.specs.Rules.{is_can_frame, is_lin_id, is_sent}
use Rattle.sk_msg.specs.Matching.{match_services}
use Rattle.sk_eth.specs.Ethernet.{is_sendable}
use Rattle.sk_lin.specs.Lin.{Lin, is_uninit, is_operational, is_asleep, is_free_master, is_lin_response}
use Rattle.sk_pubsub.specs.Publishing.{Publishing}
use Rattle.sk_rpc.specs.OpenCalls.{call_of, has_call, is_call, without, opened}
use Rattle.sk_rpc.specs.declared.open_call.OpenCall.{OpenCall}
use Rattle.sk_law.specs.declared.memory.ServiceState.{ServiceState}
use Rattle.sk_law.specs.declared.memory.ServiceState.TheVariants as states
use Rattle.sk_law.specs.declared.setup.Setup.{Setup}
use Rattle.sk_law.specs.Past.{Past}
use Rattle.sk_law.specs.Readings.{is_gone}
use Rattle.sk_law.specs.Links.{others_below, reached}
use Rattle.sk_law.specs.Services.{new_state_of, new_states}
use Rattle.sk_law.specs.Receivers.{changed, received, with_noted, noted}
use Rattle.sk_law.specs.Outcomes.{Outcome, refused, done, sends, on_can, turned, by_table, on_ethernet, on_lin, on_publisher, on_server, on_client, has_server, caller, outcome_at, outcome_of, outcome}

-- all numbers are others
abbrev pub are_others : ℕ → List ℕ → Bool
are_others n numbers = list_all (λ q. not (q == n)) numbers

-- no open call is of this number
abbrev pub is_free : ℕ → ServiceState → Bool
is_free n (states.Server calls) = list_all (λ (call : OpenCall). not (call.peer == n)) calls
is_free n _ = true

pub filtered : {X : Type 0} (f test : X → Bool) (xs : List X) → ((x : X) → test x ≡ true → f x ≡ true) → list_all f (filter test xs) ≡ true
filtered f test [] h = refl
filtered f test (x ∷ xs) h = elim (cases_Bool (test x)) [
  | inl here ↦ ap (list_all f) (cond-true (test x) (x ∷ filter test xs) (filter test xs) here) ∙ and_from (f x) (list_all f (filter test xs)) (h x here) (filtered f test xs h)
  | inr other ↦ ap (list_all f) (cond-false (test x) (x ∷ filter test xs) (filter test xs) other) ∙ filtered f test xs h
]

kept : {X : Type 0} (f test : X → Bool) (xs : List X) → list_all f xs ≡ true → list_all f (filter test xs) ≡ true
kept f test [] h = refl
kept f test (x ∷ xs) h = let b = and_parts (f x) (list_all f xs) h in elim (cases_Bool (test x)) [
  | inl here ↦ ap (list_all f) (cond-true (test x) (x ∷ filter test xs) (filter test xs) here) ∙ and_from (f x) (list_all f (filter test xs)) b.0 (kept f test xs b.1)
  | inr other ↦ ap (list_all f) (cond-false (test x) (x ∷ filter test xs) (filter test xs) other) ∙ kept f test xs b.1
]

-- whom a message goes to is no participant itself
pub others_are : (S : Setup) (past : Past) (k : ℕ) → are_others S.number (others_below S past.journal k) ≡ true
others_are S past k = filtered (λ q. not (q == S.number)) _ _ (λ p h. (and_parts (not (p == S.number)) (not (is_gone past.journal p)) h).0)

-- ## An outcome

-- it goes to others, and leaves the service without such a call
pub record IsFine (n : ℕ) (o : Outcome) : Type 0 where
  pub to : are_others n o.to ≡ true
  pub state : is_free n o.state ≡ true

refused_fine : {n : ℕ} (code : ℕ) (at : ServiceState) → is_free n at ≡ true → IsFine n (refused code at)
refused_fine code at h = record { to = refl; state = h }

done_fine : {n : ℕ} (at : ServiceState) → is_free n at ≡ true → IsFine n (done at)
done_fine at h = record { to = refl; state = h }

sends_fine : {n : ℕ} (to : List ℕ) (m : Content) (at : ServiceState) → are_others n to ≡ true → is_free n at ≡ true → IsFine n (sends to m at)
sends_fine to m at h i = record { to = h; state = i }

if_fine : {n : ℕ} (b : Bool) (x y : Outcome) → IsFine n x → (b ≡ false → IsFine n y) → IsFine n (if b then x else y)
if_fine true x y h i = h
if_fine false x y h i = i refl

can_fine : {n : ℕ} (at : ServiceState) (act : Can → Outcome) → is_free n at ≡ true → ((can : Can) → IsFine n (act can)) → IsFine n (on_can at act)
can_fine (states.Can can) act h f = f can
can_fine (states.Ethernet active) act h f = refused_fine 1 (states.Ethernet active) h
can_fine (states.Lin lin) act h f = refused_fine 1 (states.Lin lin) h
can_fine (states.Publisher publisher) act h f = refused_fine 1 (states.Publisher publisher) h
can_fine states.Subscriber act h f = refused_fine 1 states.Subscriber h
can_fine (states.Server calls) act h f = refused_fine 1 (states.Server calls) h
can_fine (states.Client made) act h f = refused_fine 1 (states.Client made) h

ethernet_fine : {n : ℕ} (at : ServiceState) (act : Bool → Outcome) → is_free n at ≡ true → ((active : Bool) → IsFine n (act active)) → IsFine n (on_ethernet at act)
ethernet_fine (states.Ethernet active) act h f = f active
ethernet_fine (states.Can can) act h f = refused_fine 1 (states.Can can) h
ethernet_fine (states.Lin lin) act h f = refused_fine 1 (states.Lin lin) h
ethernet_fine (states.Publisher publisher) act h f = refused_fine 1 (states.Publisher publisher) h
ethernet_fine states.Subscriber act h f = refused_fine 1 states.Subscriber h
ethernet_fine (states.Server calls) act h f = refused_fine 1 (states.Server calls) h
ethernet_fine (states.Client made) act h f = refused_fine 1 (states.Client made) h

lin_fine : {n : ℕ} (at : ServiceState) (act : Lin → Outcome) → is_free n at ≡ true → ((lin : Lin) → IsFine n (act lin)) → IsFine n (on_lin at act)
lin_fine (states.Lin lin) act h f = f lin
lin_fine (states.Can can) act h f = refused_fine 1 (states.Can can) h
lin_fine (states.Ethernet active) act h f = refused_fine 1 (states.Ethernet active) h
lin_fine (states.Publisher publisher) act h f = refused_fine 1 (states.Publisher publisher) h
lin_fine states.Subscriber act h f = refused_fine 1 states.Subscriber h
lin_fine (states.Server calls) act h f = refused_fine 1 (states.Server calls) h
lin_fine (states.Client made) act h f = refused_fine 1 (states.Client made) h

turned_fine : {n : ℕ} (at : ServiceState) (to : Option CanState) (after : Can) → is_free n at ≡ true → IsFine n (turned at to after)
turned_fine at None after h = refused_fine 1 at h
turned_fine at (Some to) after h = done_fine (states.Can after) refl

table_fine : {n : ℕ} (call : CanState → Option CanState) (at : ServiceState) → is_free n at ≡ true → IsFine n (by_table call at)
table_fine call at h = can_fine at _ h (λ can. turned_fine at (call can.state) (moved (call can.state) can) h)

publisher_fine : {n : ℕ} (at : ServiceState) (act : Publishing → Outcome) → is_free n at ≡ true → ((publisher : Publishing) → IsFine n (act publisher)) → IsFine n (on_publisher at act)
publisher_fine (states.Publisher publisher) act h f = f publisher
publisher_fine (states.Can can) act h f = refused_fine 1 (states.Can can) h
publisher_fine (states.Ethernet active) act h f = refused_fine 1 (states.Ethernet active) h
publisher_fine (states.Lin lin) act h f = refused_fine 1 (states.Lin lin) h
publisher_fine states.Subscriber act h f = refused_fine 1 states.Subscriber h
publisher_fine (states.Server calls) act h f = refused_fine 1 (states.Server calls) h
publisher_fine (states.Client made) act h f = refused_fine 1 (states.Client made) h

server_fine : {n : ℕ} (at : ServiceState) (act : List OpenCall → Outcome) → is_free n at ≡ true → ((calls : List OpenCall) → is_free n (states.Server calls) ≡ true → IsFine n (act calls)) → IsFine n (on_server at act)
server_fine (states.Server calls) act h f = f calls h
server_fine (states.Can can) act h f = refused_fine 1 (states.Can can) h
server_fine (states.Ethernet active) act h f = refused_fine 1 (states.Ethernet active) h
server_fine (states.Lin lin) act h f = refused_fine 1 (states.Lin lin) h
server_fine (states.Publisher publisher) act h f = refused_fine 1 (states.Publisher publisher) h
server_fine states.Subscriber act h f = refused_fine 1 states.Subscriber h
server_fine (states.Client made) act h f = refused_fine 1 (states.Client made) h

client_fine : {n : ℕ} (at : ServiceState) (act : ℕ → Outcome) → is_free n at ≡ true → ((made : ℕ) → IsFine n (act made)) → IsFine n (on_client at act)
client_fine (states.Client made) act h f = f made
client_fine (states.Can can) act h f = refused_fine 1 (states.Can can) h
client_fine (states.Ethernet active) act h f = refused_fine 1 (states.Ethernet active) h
client_fine (states.Lin lin) act h f = refused_fine 1 (states.Lin lin) h
client_fine (states.Publisher publisher) act h f = refused_fine 1 (states.Publisher publisher) h
client_fine states.Subscriber act h f = refused_fine 1 states.Subscriber h
client_fine (states.Server calls) act h f = refused_fine 1 (states.Server calls) h

-- a call that is open is of another one
open_other : (n : ℕ) (call : OpenCall) (calls : List OpenCall) → has_call call calls ≡ true → list_all (λ (one : OpenCall). not (one.peer == n)) calls ≡ true → not (call.peer == n) ≡ true
open_other n call [] has all = absurd (cc)
open_other n call (one ∷ calls) has all =
    let b = and_parts (not (one.peer == n)) (list_all (λ (c : OpenCall). not (c.peer == n)) calls) all in
    elim (cases_Bool (is_call call one)) [
      | inl same ↦ ap (λ p. not (p == n)) (eqb-true call.peer one.peer (and_parts (call.peer == one.peer) _ same).0) ∙ b.0
      | inr other ↦ open_other n call calls (ap (λ x. x || has_call call calls) (sym other) ∙ has) b.1
    ]

caller_other : (n : ℕ) (past : Past) (peer : ℕ) → not (peer == n) ≡ true → are_others n (caller past peer) ≡ true
caller_other n past peer h = by (is_gone past.journal peer)
  where
    by : (b : Bool) → are_others n (if b then [] else peer ∷ []) ≡ true
    by true = refl
    by false = and_from (not (peer == n)) true h refl

not_not : (b : Bool) → not b ≡ false → b ≡ true
not_not true e = refl
not_not false e = absurd (cc)

outcome_fine : (S : Setup) (past : Past) (a : Action) (own : Service) (at : ServiceState) → is_free S.number at ≡ true → IsFine S.number (outcome_at S past a own at)
unfolding outcome_at
outcome_fine S past (CanBaud s rate) own at h = can_fine at _ h (λ can. turned_fine at (can_baud can.state) _ h)
outcome_fine S past (CanStart s) own at h = table_fine can_start at h
outcome_fine S past (CanStop s) own at h = table_fine can_stop at h
outcome_fine S past (CanReset s) own at h = table_fine can_reset at h
outcome_fine S past (CanSleep s) own at h = table_fine can_sleep at h
outcome_fine S past (CanSend s frame) own at h = can_fine at _ h (λ can.
    if_fine (not (is_started can.state)) _ _ (refused_fine 1 at h) (λ e.
    if_fine (not (is_can_frame frame.id frame.extended frame.fd frame.payload)) _ _ (refused_fine 2 at h) (λ f. sends_fine (reached S past) _ at (others_are S past _) h)))
outcome_fine S past (EthActivate s) own at h = ethernet_fine at _ h (λ active. done_fine (states.Ethernet true) refl)
outcome_fine S past (EthDeactivate s) own at h = ethernet_fine at _ h (λ active. done_fine (states.Ethernet false) refl)
outcome_fine S past (EthSend s frame) own at h = ethernet_fine at _ h (λ active.
    if_fine (not active) _ _ (refused_fine 1 at h) (λ e.
    if_fine (not (is_sendable frame)) _ _ (refused_fine 2 at h) (λ f. sends_fine (reached S past) _ at (others_are S past _) h)))
outcome_fine S past (LinInit s role) own at h = lin_fine at _ h (λ lin. if_fine (is_uninit lin.state) _ _ (done_fine _ refl) (λ e. refused_fine 1 at h))
outcome_fine S past (LinSetResponse s response) own at h = lin_fine at _ h (λ lin.
    if_fine (not (is_operational lin.state)) _ _ (refused_fine 1 at h) (λ e.
    if_fine (not (is_lin_response response)) _ _ (refused_fine 2 at h) (λ f. sends_fine (reached S past) _ _ (others_are S past _) refl)))
outcome_fine S past (LinHeader s id) own at h = lin_fine at _ h (λ lin.
    if_fine (not (is_free_master lin)) _ _ (refused_fine 1 at h) (λ e.
    if_fine (not (is_lin_id id)) _ _ (refused_fine 2 at h) (λ f. sends_fine (reached S past) _ at (others_are S past _) h)))
outcome_fine S past (LinSendFrame s response) own at h = lin_fine at _ h (λ lin.
    if_fine (not (is_free_master lin)) _ _ (refused_fine 1 at h) (λ e.
    if_fine (not (is_lin_response response && is_sent response.mode)) _ _ (refused_fine 2 at h) (λ f. sends_fine (reached S past) _ _ (others_are S past _) refl)))
outcome_fine S past (LinSleep s) own at h = lin_fine at _ h (λ lin.
    if_fine (not (is_free_master lin)) _ _ (refused_fine 1 at h) (λ e. sends_fine (reached S past) _ _ (others_are S past _) refl))
outcome_fine S past (LinWakeup s) own at h = lin_fine at _ h (λ lin.
    if_fine (not (is_asleep lin.state)) _ _ (refused_fine 1 at h) (λ e. sends_fine (reached S past) _ _ (others_are S past _) refl))
outcome_fine S past (Publish s payload) own at h = publisher_fine at _ h (λ publisher. sends_fine (reached S past) _ _ (others_are S past _) refl)
outcome_fine S past (Call s payload) own at h = client_fine at _ h (λ made.
    if_fine (not (has_server S past own)) _ _ (refused_fine 3 at h) (λ e. sends_fine (reached S past) _ _ (others_are S past _) refl))
outcome_fine S past (Submit s peer client call payload) own at h = server_fine at _ h (λ calls free.
    if_fine (not (has_call (call_of peer client call) calls)) _ _ (refused_fine 4 at h) (λ e.
    sends_fine (caller past peer) _ (states.Server (without (call_of peer client call) calls))
    (caller_other S.number past peer (open_other S.number (call_of peer client call) calls (not_not (has_call (call_of peer client call) calls) e) free))
    (kept (λ (one : OpenCall). not (one.peer == S.number)) (λ other. not (is_call (call_of peer client call) other)) calls free)))
outcome_fine S past (Ask command) own at h = refused_fine 1 at h
outcome_fine S past (PauseFor count) own at h = refused_fine 1 at h

free_at : (n : ℕ) (all : List ServiceState) (i : ℕ) (at : ServiceState) → list_all (is_free n) all ≡ true → slice_get all i ≡ Some at → is_free n at ≡ true
free_at n [] i at h e = absurd (none-some at e)
free_at n (one ∷ all) zero at h e = ap (is_free n) (sym (same_Some one at e)) ∙ (and_parts (is_free n one) (list_all (is_free n) all) h).0
free_at n (one ∷ all) (suc i) at h e = free_at n all i at (and_parts (is_free n one) (list_all (is_free n) all) h).1 e

of_fine : (S : Setup) (past : Past) (a : Action) (own : Option Service) (at : Option ServiceState) → ((one : ServiceState) → at ≡ Some one → is_free S.number one ≡ true) → IsFine S.number (outcome_of S past a own at)
of_fine S past a (Some own) (Some at) h = outcome_fine S past a own at (h at refl)
of_fine S past a (Some own) None h = refused_fine 1 states.Subscriber refl
of_fine S past a None (Some at) h = refused_fine 1 states.Subscriber refl
of_fine S past a None None h = refused_fine 1 states.Subscriber refl

-- whatever is asked of an own service
pub fine : (S : Setup) (past : Past) (a : Action) → list_all (is_free S.number) past.memory.services ≡ true → IsFine S.number (outcome S past a)
fine S past a h = of_fine S past a _ _ (λ one e. free_at S.number past.memory.services _ one h e)

-- ## The services

pub free_changed : (n : ℕ) (change : ServiceState → ServiceState) (i : ℕ) (all : List ServiceState) → ((at : ServiceState) → is_free n at ≡ true → is_free n (change at) ≡ true) → list_all (is_free n) all ≡ true → list_all (is_free n) (changed change i all) ≡ true
free_changed n change i [] f h = h
free_changed n change zero (one ∷ all) f h =
    let b = and_parts (is_free n one) (list_all (is_free n) all) h in and_from (is_free n (change one)) (list_all (is_free n) all) (f one b.0) b.1
free_changed n change (suc i) (one ∷ all) f h =
    let b = and_parts (is_free n one) (list_all (is_free n) all) h in and_from (is_free n one) _ b.0 (free_changed n change i all f b.1)

opened_free : (n : ℕ) (call : OpenCall) (calls : List OpenCall) → not (call.peer == n) ≡ true → is_free n (states.Server calls) ≡ true → is_free n (states.Server (opened call calls)) ≡ true
opened_free n call calls other h = by (has_call call calls)
  where
    by : (b : Bool) → list_all (λ (one : OpenCall). not (one.peer == n)) (if b then calls else calls ++ call ∷ []) ≡ true
    by true = h
    by false = list_all-append (λ (one : OpenCall). not (one.peer == n)) calls (call ∷ []) ∙ and_from (list_all (λ (one : OpenCall). not (one.peer == n)) calls) (not (call.peer == n) && true) h (and_from (not (call.peer == n)) true other refl)

-- a message of another one was handed to it
pub received_free : (n p : ℕ) (m : Content) (at : ServiceState) → not (p == n) ≡ true → is_free n at ≡ true → is_free n (received p m at) ≡ true
received_free n p (contents.Lin head frame) (states.Lin lin) other h = refl
received_free n p (contents.Call head call payload) (states.Server calls) other h = opened_free n (call_of p head.service call) calls other h
received_free n p m at other h = h

with_noted_free : (n p service : ℕ) (response : LinResponse) (at : ServiceState) → is_free n at ≡ true → is_free n (with_noted p service response at) ≡ true
with_noted_free n p service response (states.Lin lin) h = refl
with_noted_free n p service response at h = h

pub noted_free : (n : ℕ) (other : Option Service) (p service : ℕ) (response : LinResponse) (owns : List Service) (all : List ServiceState) → list_all (is_free n) all ≡ true → list_all (is_free n) (noted other p service response owns all) ≡ true
noted_free n None p service response owns all h = h
noted_free n (Some other) p service response [] all h = h
noted_free n (Some other) p service response (own ∷ owns) [] h = refl
noted_free n (Some other) p service response (own ∷ owns) (at ∷ all) h =
    let b = and_parts (is_free n at) (list_all (is_free n) all) h in
    and_from (is_free n (if match_services own other then with_noted p service response at else at)) _ (by (match_services own other) b.0) (noted_free n (Some other) p service response owns all b.1)
  where
    by : (c : Bool) → is_free n at ≡ true → is_free n (if c then with_noted p service response at else at) ≡ true
    by true e = with_noted_free n p service response at e
    by false e = e

new_free : (n : ℕ) (service : Service) (kind : ServiceKind) → is_free n (new_state_of service kind) ≡ true
new_free n service kinds.Can = refl
new_free n service kinds.Ethernet = refl
new_free n service kinds.Lin = refl
new_free n service kinds.Publisher = refl
new_free n service kinds.Subscriber = refl
new_free n service kinds.Server = refl
new_free n service kinds.Client = refl

pub all_new_free : (n : ℕ) (services : List Service) → list_all (is_free n) (new_states services) ≡ true
all_new_free n [] = refl
all_new_free n (service ∷ services) = and_from (is_free n (new_state_of service service.kind)) _ (new_free n service service.kind) (all_new_free n services)
