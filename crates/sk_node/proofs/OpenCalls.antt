-- Whatever an action comes to, the calls that a server has still to answer have numbers that calls may have.
use Rattle.std.specs.Prelude.{◌≡◌, refl, ℕ, Bool, true, false, not, ◌&&◌, ◌||◌, ◌+◌, ◌==◌, IsTrue, List, [], ◌∷◌, filter, Option, Some, None, slice_get, if◌then◌else◌}
use Rattle.std.specs.List.{list_any, list_all}
use Rattle.std.proofs.Common.{ap, sym, ◌∙◌, subst}
use Rattle.std.proofs.lemmas.Bool.{and_parts, and_from, eqb-true}
use Rattle.sk_msg.specs.Rules.{is_call, is_can_frame, is_lin_id, is_sent}
use Rattle.sk_msg.specs.declared.action.Action.{Action}
use Rattle.sk_msg.specs.declared.action.Action.TheVariants as actions
use Rattle.sk_msg.specs.declared.content.Content.{Content}
use Rattle.sk_msg.specs.declared.content.Content.TheVariants as contents
use Rattle.sk_msg.specs.declared.service.Service.{Service}
use Rattle.sk_can.specs.Can.{Can, can_baud, can_start, can_stop, can_reset, can_sleep, is_started, moved, with_rate}
use Rattle.sk_can.specs.declared.state.CanState.{CanState}
use Rattle.sk_eth.specs.Ethernet.{is_sendable, padded}
use Rattle.sk_lin.specs.Lin.{Lin, header_frame, is_uninit, is_operational, is_asleep, is_free_master, is_lin_response, sleep_frame, wakeup_frame, with_kept}
use Rattle.sk_lin.specs.declared.kept.Source.TheVariants.{Own}
use Rattle.sk_lin.specs.declared.state.LinState.TheVariants.{Operational, Sleep}
use Rattle.sk_pubsub.specs.Publishing.{Publishing, published}
use Rattle.sk_rpc.specs.OpenCalls.{call_of, has_call, is_call as is_same_call, without}
use Rattle.sk_rpc.specs.declared.open_call.OpenCall.{OpenCall}
use Rattle.sk_law.specs.Counted.{are_calls}
use Rattle.sk_law.specs.declared.memory.ServiceState.{ServiceState}
use Rattle.sk_law.specs.declared.memory.ServiceState.TheVariants as states
use Rattle.sk_law.specs.declared.setup.Setup.{Setup}
use Rattle.sk_law.specs.Past.{Past}
use Rattle.sk_law.specs.Links.{reached}
use Rattle.sk_law.specs.Readings.{head_at}
use Rattle.sk_law.specs.Outcomes.{Outcome, by_table, caller, done, has_server, named, on_can, on_client, on_ethernet, on_lin, on_publisher, on_server, outcome_at, outcome_of, refused, sends, turned}
use Rattle.sk_node.specs.Acting.{outcome_by}
use Rattle.sk_node.specs.declared.services.Answer.{Answer}

-- ## An open call

one_called : (a : OpenCall) (peer client call : ℕ) → is_same_call (call_of peer client call) a ≡ true → is_call a.call ≡ true → IsTrue (is_call call)
one_called a peer client call same good =
    let both = and_parts (client == a.client) (call == a.call) (and_parts (peer == a.peer) (client == a.client && call == a.call) same).1 in
    subst (λ n. is_call n ≡ true) (sym (eqb-true call a.call both.1)) good

-- what is open has a number that a call may have
pub open_is_call : (peer client call : ℕ) (calls : List OpenCall) → list_all (λ one. is_call one.call) calls ≡ true → has_call (call_of peer client call) calls ≡ true → IsTrue (is_call call)
open_is_call peer client call [] all has = absurd (let no : false ≡ true = has in cc)
open_is_call peer client call (a ∷ calls) all has =
    let parts = and_parts (is_call a.call) (list_all (λ one. is_call one.call) calls) all in
    by (is_same_call (call_of peer client call) a) refl has parts.0 (open_is_call peer client call calls parts.1)
  where
    by : (b : Bool) → is_same_call (call_of peer client call) a ≡ b → (b || list_any (is_same_call (call_of peer client call)) calls) ≡ true → is_call a.call ≡ true →
        (has_call (call_of peer client call) calls ≡ true → IsTrue (is_call call)) → IsTrue (is_call call)
    by true e h first more = one_called a peer client call e first
    by false e h first more = more h

fewer : (test : OpenCall → Bool) (calls : List OpenCall) → list_all (λ one. is_call one.call) calls ≡ true → list_all (λ one. is_call one.call) (filter test calls) ≡ true
fewer test [] all = refl
fewer test (a ∷ calls) all =
    let parts = and_parts (is_call a.call) (list_all (λ one. is_call one.call) calls) all in by (test a) parts.0 (fewer test calls parts.1)
  where
    by : (b : Bool) → is_call a.call ≡ true → list_all (λ one. is_call one.call) (filter test calls) ≡ true → list_all (λ one. is_call one.call) (if b then a ∷ filter test calls else filter test calls) ≡ true
    by true first more = and_from (is_call a.call) (list_all (λ one. is_call one.call) (filter test calls)) first more
    by false first more = more

-- ## Outcomes

abbrev IsGood : Outcome → Type 0
IsGood o = are_calls o.state ≡ true

either : (b : Bool) (x y : Outcome) → IsGood x → IsGood y → IsGood (if b then x else y)
either true x y h i = h
either false x y h i = i

turning : (at : ServiceState) (to : Option CanState) (after : Can) → are_calls at ≡ true → IsGood (turned at to after)
turning at None after h = h
turning at (Some to) after h = refl

of_can : (at : ServiceState) (act : Can → Outcome) → are_calls at ≡ true → ((can : Can) → IsGood (act can)) → IsGood (on_can at act)
of_can (states.Can can) act h f = f can
of_can (states.Ethernet active) act h f = h
of_can (states.Lin lin) act h f = h
of_can (states.Publisher publisher) act h f = h
of_can states.Subscriber act h f = h
of_can (states.Server calls) act h f = h
of_can (states.Client made) act h f = h

of_ethernet : (at : ServiceState) (act : Bool → Outcome) → are_calls at ≡ true → ((active : Bool) → IsGood (act active)) → IsGood (on_ethernet at act)
of_ethernet (states.Can can) act h f = h
of_ethernet (states.Ethernet active) act h f = f active
of_ethernet (states.Lin lin) act h f = h
of_ethernet (states.Publisher publisher) act h f = h
of_ethernet states.Subscriber act h f = h
of_ethernet (states.Server calls) act h f = h
of_ethernet (states.Client made) act h f = h

of_lin : (at : ServiceState) (act : Lin → Outcome) → are_calls at ≡ true → ((lin : Lin) → IsGood (act lin)) → IsGood (on_lin at act)
of_lin (states.Can can) act h f = h
of_lin (states.Ethernet active) act h f = h
of_lin (states.Lin lin) act h f = f lin
of_lin (states.Publisher publisher) act h f = h
of_lin states.Subscriber act h f = h
of_lin (states.Server calls) act h f = h
of_lin (states.Client made) act h f = h

tabled : (call : CanState → Option CanState) (at : ServiceState) → are_calls at ≡ true → IsGood (by_table call at)
tabled call at h = of_can at (λ can. turned at (call can.state) (moved (call can.state) can)) h (λ can. turning at (call can.state) (moved (call can.state) can) h)

publishing : (at : ServiceState) → are_calls at ≡ true → (act : Publishing → Outcome) → ((p : Publishing) → IsGood (act p)) → IsGood (on_publisher at act)
publishing (states.Can can) h act f = h
publishing (states.Ethernet active) h act f = h
publishing (states.Lin lin) h act f = h
publishing (states.Publisher publisher) h act f = f publisher
publishing states.Subscriber h act f = h
publishing (states.Server calls) h act f = h
publishing (states.Client made) h act f = h

calling : (at : ServiceState) → are_calls at ≡ true → (act : ℕ → Outcome) → ((made : ℕ) → IsGood (act made)) → IsGood (on_client at act)
calling (states.Can can) h act f = h
calling (states.Ethernet active) h act f = h
calling (states.Lin lin) h act f = h
calling (states.Publisher publisher) h act f = h
calling states.Subscriber h act f = h
calling (states.Server calls) h act f = h
calling (states.Client made) h act f = f made

answering : (at : ServiceState) → are_calls at ≡ true → (act : List OpenCall → Outcome) → ((calls : List OpenCall) → list_all (λ one. is_call one.call) calls ≡ true → IsGood (act calls)) → IsGood (on_server at act)
answering (states.Can can) h act f = h
answering (states.Ethernet active) h act f = h
answering (states.Lin lin) h act f = h
answering (states.Publisher publisher) h act f = h
answering states.Subscriber h act f = h
answering (states.Server calls) h act f = f calls h
answering (states.Client made) h act f = h

good : (S : Setup) (past : Past) (a : Action) (own : Service) (at : ServiceState) → are_calls at ≡ true → IsGood (outcome_at S past a own at)
unfolding outcome_at
good S past (actions.CanBaud s rate) own at h = of_can at (λ can. turned at (can_baud can.state) (with_rate rate (can_baud can.state) can)) h (λ can. turning at (can_baud can.state) (with_rate rate (can_baud can.state) can) h)
good S past (actions.CanStart s) own at h = tabled can_start at h
good S past (actions.CanStop s) own at h = tabled can_stop at h
good S past (actions.CanReset s) own at h = tabled can_reset at h
good S past (actions.CanSleep s) own at h = tabled can_sleep at h
good S past (actions.CanSend s frame) own at h = of_can at _ h (λ can.
    either (not (is_started can.state)) (refused 1 at) (if not (is_can_frame frame.id frame.extended frame.fd frame.payload) then refused 2 at else sends (reached S past) (contents.Can (head_at s past.journal) frame) at) h (either (not (is_can_frame frame.id frame.extended frame.fd frame.payload)) (refused 2 at) (sends (reached S past) (contents.Can (head_at s past.journal) frame) at) h h))
good S past (actions.EthActivate s) own at h = of_ethernet at (λ active. done (states.Ethernet true)) h (λ active. refl)
good S past (actions.EthDeactivate s) own at h = of_ethernet at (λ active. done (states.Ethernet false)) h (λ active. refl)
good S past (actions.EthSend s frame) own at h = of_ethernet at _ h (λ active.
    either (not active) (refused 1 at) (if not (is_sendable frame) then refused 2 at else sends (reached S past) (contents.Eth (head_at s past.journal) (padded frame)) at) h (either (not (is_sendable frame)) (refused 2 at) (sends (reached S past) (contents.Eth (head_at s past.journal) (padded frame)) at) h h))
good S past (actions.LinInit s role) own at h = of_lin at _ h (λ lin.
    either (is_uninit lin.state) (done (states.Lin (record lin { state = Operational; role = role }))) (refused 1 at) refl h)
good S past (actions.LinSetResponse s response) own at h = of_lin at _ h (λ lin.
    either (not (is_operational lin.state)) (refused 1 at) (if not (is_lin_response response) then refused 2 at else sends (reached S past) (contents.LinResponse (head_at s past.journal) response) (states.Lin (with_kept Own response lin))) h (either (not (is_lin_response response)) (refused 2 at) (sends (reached S past) (contents.LinResponse (head_at s past.journal) response) (states.Lin (with_kept Own response lin))) h refl))
good S past (actions.LinHeader s id) own at h = of_lin at _ h (λ lin.
    either (not (is_free_master lin)) (refused 1 at) (if not (is_lin_id id) then refused 2 at else sends (reached S past) (contents.Lin (head_at s past.journal) (header_frame id lin)) at) h (either (not (is_lin_id id)) (refused 2 at) (sends (reached S past) (contents.Lin (head_at s past.journal) (header_frame id lin)) at) h h))
good S past (actions.LinSendFrame s response) own at h = of_lin at _ h (λ lin.
    either (not (is_free_master lin)) (refused 1 at) (if not (is_lin_response response && is_sent response.mode) then refused 2 at else sends (reached S past) (contents.Lin (head_at s past.journal) (header_frame response.id (with_kept Own response lin))) (states.Lin (with_kept Own response lin))) h (either (not (is_lin_response response && is_sent response.mode)) (refused 2 at) (sends (reached S past) (contents.Lin (head_at s past.journal) (header_frame response.id (with_kept Own response lin))) (states.Lin (with_kept Own response lin))) h refl))
good S past (actions.LinSleep s) own at h = of_lin at _ h (λ lin.
    either (not (is_free_master lin)) (refused 1 at) (sends (reached S past) (contents.Lin (head_at s past.journal) sleep_frame) (states.Lin (record lin { state = Sleep }))) h refl)
good S past (actions.LinWakeup s) own at h = of_lin at _ h (λ lin.
    either (not (is_asleep lin.state)) (refused 1 at) (sends (reached S past) (contents.Lin (head_at s past.journal) wakeup_frame) (states.Lin (record lin { state = Operational }))) h refl)
good S past (actions.Publish s payload) own at h = publishing at h (λ p. sends (reached S past) (contents.Publish (head_at s past.journal) payload) (states.Publisher (published payload p))) (λ p. refl)
good S past (actions.Call s payload) own at h = calling at h _ (λ made.
    either (not (has_server S past own)) (refused 3 at) (sends (reached S past) (contents.Call (head_at s past.journal) (made + 1) payload) (states.Client (made + 1))) h refl)
good S past (actions.Submit s peer client call payload) own at h = answering at h _ (λ calls all.
    either (not (has_call (call_of peer client call) calls)) (refused 4 at) (sends (caller past peer) (contents.Reply (head_at s past.journal) client call payload) (states.Server (without (call_of peer client call) calls))) h
    (fewer (λ other. not (is_same_call (call_of peer client call) other)) calls all))
good S past (actions.Ask command) own at h = h
good S past (actions.PauseFor count) own at h = h

-- of the state that the code has then
pub still_calls : (S : Setup) (past : Past) (a : Action) (own : Service) (before after : ServiceState) (answer : Answer) → outcome_by answer after ≡ outcome_at S past a own before → IsTrue (are_calls before) → IsTrue (are_calls after)
still_calls S past a own before after answer e h = ap (λ (o : Outcome). are_calls o.state) e ∙ good S past a own before h
