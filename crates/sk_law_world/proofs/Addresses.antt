-- What an action sends is of the kind of its service and goes to all or to one caller, and the service stays of its kind.
use Rattle.std.specs.Prelude.{◌≡◌, ◌⊎◌, refl, IfSome, IsSomeAnd}
use Rattle.std.proofs.Common.{ap, sym, ◌∙◌, inl, inr}
use Rattle.sk_law.specs.Order.{is_kind}
use Rattle.sk_law_world.proofs.Saids.{sent_by}
use Rattle.sk_law_world.proofs.Spokens.{kind_at}
use Rattle.sk_msg.specs.declared.service.ServiceKind.{ServiceKind}
use Rattle.sk_msg.specs.declared.service.ServiceKind.TheVariants as kinds
use Rattle.sk_law.specs.Outcomes.{Outcome, refused, done, sends, on_can, turned, by_table, on_ethernet, on_lin, on_server, on_client, on_publisher, has_server, caller, named, outcome_at}
use Rattle.std.specs.Prelude.{ℕ, ◌+◌, Bool, true, false, not, ◌&&◌, List, Option, Some, None, if◌then◌else◌}
use Rattle.sk_msg.specs.Rules.{is_can_frame, is_lin_id, is_sent}
use Rattle.sk_msg.specs.declared.content.Content.{Content}
use Rattle.sk_msg.specs.declared.content.Content.TheVariants as contents
use Rattle.sk_msg.specs.declared.service.Service.{Service}
use Rattle.sk_msg.specs.declared.action.Action.{Action}
use Rattle.sk_msg.specs.declared.action.Action.TheVariants.{CanBaud, CanStart, CanStop, CanReset, CanSleep, CanSend, EthActivate, EthDeactivate, EthSend, LinInit, LinSetResponse, LinHeader, LinSendFrame, LinSleep, LinWakeup, Publish, Call, Submit, Ask, PauseFor}
use Rattle.sk_can.specs.declared.state.CanState.{CanState}
use Rattle.sk_lin.specs.declared.state.LinState.TheVariants.{Operational, Sleep}
use Rattle.sk_law.specs.declared.setup.Setup.{Setup}
use Rattle.sk_can.specs.Can.{Can, moved, with_rate, can_baud, can_start, can_stop, can_reset, can_sleep, is_started}
use Rattle.sk_eth.specs.Ethernet.{is_sendable, padded}
use Rattle.sk_lin.specs.declared.kept.Source.TheVariants.{Own}
use Rattle.sk_lin.specs.Lin.{Lin, with_kept, header_frame, is_uninit, is_operational, is_asleep, is_free_master, is_lin_response, sleep_frame, wakeup_frame}
use Rattle.sk_msg.specs.Heads.{head_of}
use Rattle.sk_law.specs.Past.{Past}
use Rattle.sk_law.specs.Readings.{head_at}
use Rattle.sk_law.specs.Links.{reached}
use Rattle.sk_pubsub.specs.Publishing.{Publishing, published}
use Rattle.sk_rpc.specs.OpenCalls.{call_of, has_call, without}
use Rattle.sk_law.specs.declared.memory.ServiceState.{ServiceState}
use Rattle.sk_law.specs.declared.memory.ServiceState.TheVariants.{Can as CanAt, Ethernet as EthernetAt, Lin as LinAt, Publisher as PublisherAt, Subscriber as SubscriberAt, Server as ServerAt, Client as ClientAt}
use Rattle.sk_rpc.specs.declared.open_call.OpenCall.{OpenCall}

-- all that isn't gone, or one caller
abbrev pub IsAddress : Setup → Past → List ℕ → Type 0
IsAddress S past to = (to ≡ reached S past) ⊎ ((p : ℕ) × (to ≡ caller past p))

abbrev pub IsOwn : ServiceState → ℕ → Content → Type 0
IsOwn at s m = IsSomeAnd (sent_by m) (λ k. is_kind k (kind_at at) ≡ true) × IsSomeAnd (head_of m) (λ x. x.service ≡ s)

abbrev pub IsKindly : Setup → Past → ServiceState → ℕ → Outcome → Type 0
IsKindly S past at s o = (kind_at o.state ≡ kind_at at) × IfSome o.message (λ m. IsOwn at s m × IsAddress S past o.to)

either : (S : Setup) (past : Past) (at : ServiceState) (s : ℕ) (b : Bool) (x y : Outcome) → IsKindly S past at s x → IsKindly S past at s y → IsKindly S past at s (if b then x else y)
either S past at s true x y h i = h
either S past at s false x y h i = i

on_can_is : (S : Setup) (past : Past) (s : ℕ) (at : ServiceState) (f : Can → Outcome) → ((x : Can) → at ≡ CanAt x → IsKindly S past at s (f x)) → IsKindly S past at s (on_can at f)
on_can_is S past s (CanAt x) f h = h x refl
on_can_is S past s (EthernetAt x) f h = (refl, tt)
on_can_is S past s (LinAt x) f h = (refl, tt)
on_can_is S past s (PublisherAt x) f h = (refl, tt)
on_can_is S past s SubscriberAt f h = (refl, tt)
on_can_is S past s (ServerAt x) f h = (refl, tt)
on_can_is S past s (ClientAt x) f h = (refl, tt)

on_ethernet_is : (S : Setup) (past : Past) (s : ℕ) (at : ServiceState) (f : Bool → Outcome) → ((x : Bool) → at ≡ EthernetAt x → IsKindly S past at s (f x)) → IsKindly S past at s (on_ethernet at f)
on_ethernet_is S past s (CanAt x) f h = (refl, tt)
on_ethernet_is S past s (EthernetAt x) f h = h x refl
on_ethernet_is S past s (LinAt x) f h = (refl, tt)
on_ethernet_is S past s (PublisherAt x) f h = (refl, tt)
on_ethernet_is S past s SubscriberAt f h = (refl, tt)
on_ethernet_is S past s (ServerAt x) f h = (refl, tt)
on_ethernet_is S past s (ClientAt x) f h = (refl, tt)

on_lin_is : (S : Setup) (past : Past) (s : ℕ) (at : ServiceState) (f : Lin → Outcome) → ((x : Lin) → at ≡ LinAt x → IsKindly S past at s (f x)) → IsKindly S past at s (on_lin at f)
on_lin_is S past s (CanAt x) f h = (refl, tt)
on_lin_is S past s (EthernetAt x) f h = (refl, tt)
on_lin_is S past s (LinAt x) f h = h x refl
on_lin_is S past s (PublisherAt x) f h = (refl, tt)
on_lin_is S past s SubscriberAt f h = (refl, tt)
on_lin_is S past s (ServerAt x) f h = (refl, tt)
on_lin_is S past s (ClientAt x) f h = (refl, tt)

on_publisher_is : (S : Setup) (past : Past) (s : ℕ) (at : ServiceState) (f : Publishing → Outcome) → ((x : Publishing) → at ≡ PublisherAt x → IsKindly S past at s (f x)) → IsKindly S past at s (on_publisher at f)
on_publisher_is S past s (CanAt x) f h = (refl, tt)
on_publisher_is S past s (EthernetAt x) f h = (refl, tt)
on_publisher_is S past s (LinAt x) f h = (refl, tt)
on_publisher_is S past s (PublisherAt x) f h = h x refl
on_publisher_is S past s SubscriberAt f h = (refl, tt)
on_publisher_is S past s (ServerAt x) f h = (refl, tt)
on_publisher_is S past s (ClientAt x) f h = (refl, tt)

on_server_is : (S : Setup) (past : Past) (s : ℕ) (at : ServiceState) (f : List OpenCall → Outcome) → ((x : List OpenCall) → at ≡ ServerAt x → IsKindly S past at s (f x)) → IsKindly S past at s (on_server at f)
on_server_is S past s (CanAt x) f h = (refl, tt)
on_server_is S past s (EthernetAt x) f h = (refl, tt)
on_server_is S past s (LinAt x) f h = (refl, tt)
on_server_is S past s (PublisherAt x) f h = (refl, tt)
on_server_is S past s SubscriberAt f h = (refl, tt)
on_server_is S past s (ServerAt x) f h = h x refl
on_server_is S past s (ClientAt x) f h = (refl, tt)

on_client_is : (S : Setup) (past : Past) (s : ℕ) (at : ServiceState) (f : ℕ → Outcome) → ((x : ℕ) → at ≡ ClientAt x → IsKindly S past at s (f x)) → IsKindly S past at s (on_client at f)
on_client_is S past s (CanAt x) f h = (refl, tt)
on_client_is S past s (EthernetAt x) f h = (refl, tt)
on_client_is S past s (LinAt x) f h = (refl, tt)
on_client_is S past s (PublisherAt x) f h = (refl, tt)
on_client_is S past s SubscriberAt f h = (refl, tt)
on_client_is S past s (ServerAt x) f h = (refl, tt)
on_client_is S past s (ClientAt x) f h = h x refl

turned_is : (S : Setup) (past : Past) (s : ℕ) (at : ServiceState) (x : Can) (o : Option CanState) (after : Can) → at ≡ CanAt x → IsKindly S past at s (turned at o after)
turned_is S past s at x None after e = (refl, tt)
turned_is S past s at x (Some state) after e = (sym (ap kind_at e), tt)

table_is : (S : Setup) (past : Past) (s : ℕ) (call : CanState → Option CanState) (at : ServiceState) → IsKindly S past at s (by_table call at)
table_is S past s call at = on_can_is S past s at (λ can. turned at (call can.state) (moved (call can.state) can)) (λ x e. turned_is S past s at x (call x.state) (moved (call x.state) x) e)

-- a kind is itself
owned : (k at : ServiceKind) → at ≡ k → is_kind k k ≡ true → is_kind k at ≡ true
owned k at e h = ap (is_kind k) e ∙ h

pub outcome_at_kind : (S : Setup) (past : Past) (a : Action) (own : Service) (at : ServiceState) → IsKindly S past at (named a) (outcome_at S past a own at)
unfolding outcome_at
outcome_at_kind S past (CanBaud s rate) own at = on_can_is S past s at (λ can. turned at (can_baud can.state) (with_rate rate (can_baud can.state) can)) (λ x e. turned_is S past s at x (can_baud x.state) (with_rate rate (can_baud x.state) x) e)
outcome_at_kind S past (CanStart s) own at = table_is S past s can_start at
outcome_at_kind S past (CanStop s) own at = table_is S past s can_stop at
outcome_at_kind S past (CanReset s) own at = table_is S past s can_reset at
outcome_at_kind S past (CanSleep s) own at = table_is S past s can_sleep at
outcome_at_kind S past (CanSend s frame) own at = on_can_is S past s at (λ can. if not (is_started can.state) then refused 1 at else if not (is_can_frame frame.id frame.extended frame.fd frame.payload) then refused 2 at else sends (reached S past) (contents.Can (head_at s past.journal) frame) at) (λ can e. either S past at s (not (is_started can.state)) (refused 1 at) (if not (is_can_frame frame.id frame.extended frame.fd frame.payload) then refused 2 at else sends (reached S past) (contents.Can (head_at s past.journal) frame) at) ((refl, tt)) (either S past at s (not (is_can_frame frame.id frame.extended frame.fd frame.payload)) (refused 2 at) (sends (reached S past) (contents.Can (head_at s past.journal) frame) at) ((refl, tt)) ((refl, ((owned kinds.Can (kind_at at) (ap kind_at e) refl, refl), inl refl)))))
outcome_at_kind S past (EthActivate s) own at = on_ethernet_is S past s at (λ active. done (EthernetAt true)) (λ active e. (sym (ap kind_at e), tt))
outcome_at_kind S past (EthDeactivate s) own at = on_ethernet_is S past s at (λ active. done (EthernetAt false)) (λ active e. (sym (ap kind_at e), tt))
outcome_at_kind S past (EthSend s frame) own at = on_ethernet_is S past s at (λ active. if not active then refused 1 at else if not (is_sendable frame) then refused 2 at else sends (reached S past) (contents.Eth (head_at s past.journal) (padded frame)) at) (λ active e. either S past at s (not active) (refused 1 at) (if not (is_sendable frame) then refused 2 at else sends (reached S past) (contents.Eth (head_at s past.journal) (padded frame)) at) ((refl, tt)) (either S past at s (not (is_sendable frame)) (refused 2 at) (sends (reached S past) (contents.Eth (head_at s past.journal) (padded frame)) at) ((refl, tt)) ((refl, ((owned kinds.Ethernet (kind_at at) (ap kind_at e) refl, refl), inl refl)))))
outcome_at_kind S past (LinInit s role) own at = on_lin_is S past s at (λ lin. if is_uninit lin.state then done (LinAt (record lin { state = Operational; role = role })) else refused 1 at) (λ lin e. either S past at s (is_uninit lin.state) (done (LinAt (record lin { state = Operational; role = role }))) (refused 1 at) ((sym (ap kind_at e), tt)) ((refl, tt)))
outcome_at_kind S past (LinSetResponse s response) own at = on_lin_is S past s at (λ lin. if not (is_operational lin.state) then refused 1 at else if not (is_lin_response response) then refused 2 at else sends (reached S past) (contents.LinResponse (head_at s past.journal) response) (LinAt (with_kept Own response lin))) (λ lin e. either S past at s (not (is_operational lin.state)) (refused 1 at) (if not (is_lin_response response) then refused 2 at else sends (reached S past) (contents.LinResponse (head_at s past.journal) response) (LinAt (with_kept Own response lin))) ((refl, tt)) (either S past at s (not (is_lin_response response)) (refused 2 at) (sends (reached S past) (contents.LinResponse (head_at s past.journal) response) (LinAt (with_kept Own response lin))) ((refl, tt)) ((sym (ap kind_at e), ((owned kinds.Lin (kind_at at) (ap kind_at e) refl, refl), inl refl)))))
outcome_at_kind S past (LinHeader s id) own at = on_lin_is S past s at (λ lin. if not (is_free_master lin) then refused 1 at else if not (is_lin_id id) then refused 2 at else sends (reached S past) (contents.Lin (head_at s past.journal) (header_frame id lin)) at) (λ lin e. either S past at s (not (is_free_master lin)) (refused 1 at) (if not (is_lin_id id) then refused 2 at else sends (reached S past) (contents.Lin (head_at s past.journal) (header_frame id lin)) at) ((refl, tt)) (either S past at s (not (is_lin_id id)) (refused 2 at) (sends (reached S past) (contents.Lin (head_at s past.journal) (header_frame id lin)) at) ((refl, tt)) ((refl, ((owned kinds.Lin (kind_at at) (ap kind_at e) refl, refl), inl refl)))))
outcome_at_kind S past (LinSendFrame s response) own at = on_lin_is S past s at (λ lin. if not (is_free_master lin) then refused 1 at else if not (is_lin_response response && is_sent response.mode) then refused 2 at else sends (reached S past) (contents.Lin (head_at s past.journal) (header_frame response.id (with_kept Own response lin))) (LinAt (with_kept Own response lin))) (λ lin e. either S past at s (not (is_free_master lin)) (refused 1 at) (if not (is_lin_response response && is_sent response.mode) then refused 2 at else sends (reached S past) (contents.Lin (head_at s past.journal) (header_frame response.id (with_kept Own response lin))) (LinAt (with_kept Own response lin))) ((refl, tt)) (either S past at s (not (is_lin_response response && is_sent response.mode)) (refused 2 at) (sends (reached S past) (contents.Lin (head_at s past.journal) (header_frame response.id (with_kept Own response lin))) (LinAt (with_kept Own response lin))) ((refl, tt)) ((sym (ap kind_at e), ((owned kinds.Lin (kind_at at) (ap kind_at e) refl, refl), inl refl)))))
outcome_at_kind S past (LinSleep s) own at = on_lin_is S past s at (λ lin. if not (is_free_master lin) then refused 1 at else sends (reached S past) (contents.Lin (head_at s past.journal) sleep_frame) (LinAt (record lin { state = Sleep }))) (λ lin e. either S past at s (not (is_free_master lin)) (refused 1 at) (sends (reached S past) (contents.Lin (head_at s past.journal) sleep_frame) (LinAt (record lin { state = Sleep }))) ((refl, tt)) ((sym (ap kind_at e), ((owned kinds.Lin (kind_at at) (ap kind_at e) refl, refl), inl refl))))
outcome_at_kind S past (LinWakeup s) own at = on_lin_is S past s at (λ lin. if not (is_asleep lin.state) then refused 1 at else sends (reached S past) (contents.Lin (head_at s past.journal) wakeup_frame) (LinAt (record lin { state = Operational }))) (λ lin e. either S past at s (not (is_asleep lin.state)) (refused 1 at) (sends (reached S past) (contents.Lin (head_at s past.journal) wakeup_frame) (LinAt (record lin { state = Operational }))) ((refl, tt)) ((sym (ap kind_at e), ((owned kinds.Lin (kind_at at) (ap kind_at e) refl, refl), inl refl))))
outcome_at_kind S past (Publish s payload) own at = on_publisher_is S past s at (λ publisher. sends (reached S past) (contents.Publish (head_at s past.journal) payload) (PublisherAt (published payload publisher))) (λ last e. (sym (ap kind_at e), ((owned kinds.Publisher (kind_at at) (ap kind_at e) refl, refl), inl refl)))
outcome_at_kind S past (Call s payload) own at = on_client_is S past s at (λ made. if not (has_server S past own) then refused 3 at else sends (reached S past) (contents.Call (head_at s past.journal) (made + 1) payload) (ClientAt (made + 1))) (λ made e. either S past at s (not (has_server S past own)) (refused 3 at) (sends (reached S past) (contents.Call (head_at s past.journal) (made + 1) payload) (ClientAt (made + 1))) ((refl, tt)) ((sym (ap kind_at e), ((owned kinds.Client (kind_at at) (ap kind_at e) refl, refl), inl refl))))
outcome_at_kind S past (Submit s peer client call payload) own at = on_server_is S past s at (λ calls. if not (has_call (call_of peer client call) calls) then refused 4 at else sends (caller past peer) (contents.Reply (head_at s past.journal) client call payload) (ServerAt (without (call_of peer client call) calls))) (λ calls e. either S past at s (not (has_call (call_of peer client call) calls)) (refused 4 at) (sends (caller past peer) (contents.Reply (head_at s past.journal) client call payload) (ServerAt (without (call_of peer client call) calls))) ((refl, tt)) ((sym (ap kind_at e), ((owned kinds.Server (kind_at at) (ap kind_at e) refl, refl), inr (peer, refl)))))
outcome_at_kind S past (Ask command) own at = (refl, tt)
outcome_at_kind S past (PauseFor count) own at = (refl, tt)
