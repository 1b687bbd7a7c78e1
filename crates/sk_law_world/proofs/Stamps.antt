-- What an action sends has the stamp and the mark of the moment, and goes to whom it should.
use Rattle.std.specs.Prelude.{◌≡◌, ◌≤◌, refl, length, [], ◌∷◌, IfSome, IsSomeAnd}
use Rattle.sk_law.specs.Outcomes.{Outcome, refused, done, sends, on_can, turned, by_table, on_ethernet, on_lin, on_server, on_client, on_publisher, has_server, caller, named, outcome_at, outcome_of, outcome}
use Rattle.std.specs.Prelude.{ℕ, ◌+◌, Bool, true, false, not, ◌&&◌, List, Option, Some, None, slice_get, if◌then◌else◌}
use Rattle.sk_msg.specs.Rules.{is_can_frame, is_lin_id, is_sent}
use Rattle.sk_msg.specs.declared.content.Content.{Content}
use Rattle.sk_msg.specs.declared.content.Content.TheVariants as contents
use Rattle.sk_msg.specs.declared.service.Service.{Service}
use Rattle.sk_msg.specs.declared.action.Action.{Action}
use Rattle.sk_msg.specs.declared.action.Action.TheVariants.{CanBaud, CanStart, CanStop, CanReset, CanSleep, CanSend, EthActivate, EthDeactivate, EthSend, LinInit, LinSetResponse, LinHeader, LinSendFrame, LinSleep, LinWakeup, Publish, Call, Submit, Ask, PauseFor}
use Rattle.sk_can.specs.declared.state.CanState.{CanState}
use Rattle.sk_lin.specs.declared.state.LinState.TheVariants.{Operational, Sleep}
use Rattle.sk_law.specs.declared.setup.Setup.{Setup}
use Rattle.sk_can.specs.Can.{Can, moved, with_rate, can_baud, can_start, can_stop, can_reset, can_sleep, is_started}
use Rattle.sk_eth.specs.Ethernet.{is_sendable, padded}
use Rattle.sk_lin.specs.declared.kept.Source.TheVariants.{Own}
use Rattle.sk_lin.specs.Lin.{Lin, with_kept, header_frame, is_uninit, is_operational, is_asleep, is_free_master, is_lin_response, sleep_frame, wakeup_frame}
use Rattle.sk_msg.specs.Heads.{head_of}
use Rattle.sk_law.specs.Past.{Past}
use Rattle.sk_law.specs.Readings.{stamp, mark, head_at, is_gone}
use Rattle.std.proofs.Common.{arith}
use Rattle.sk_law_world.specs.Sent.{is_reply}
use Rattle.sk_law.specs.Links.{reached}
use Rattle.sk_pubsub.specs.Publishing.{Publishing, published}
use Rattle.sk_rpc.specs.OpenCalls.{call_of, has_call, without}
use Rattle.sk_law.specs.declared.memory.ServiceState.{ServiceState}
use Rattle.sk_law.specs.declared.memory.ServiceState.TheVariants.{Can as CanAt, Ethernet as EthernetAt, Lin as LinAt, Publisher as PublisherAt, Subscriber as SubscriberAt, Server as ServerAt, Client as ClientAt}
use Rattle.sk_rpc.specs.declared.open_call.OpenCall.{OpenCall}

-- a data message with the stamp and the mark of the moment
abbrev pub IsStampedData : Past → Content → Type 0
IsStampedData past m = IsSomeAnd (head_of m) (λ s. (s.stamp ≡ stamp past.journal) × (s.mark ≡ mark past.journal))

abbrev pub IsStamped : Setup → Past → Outcome → Type 0
IsStamped S past o = IfSome o.message (IsStampedData past)

-- a Reply goes to one at most, every other message to each peer that isn't gone
abbrev pub IsAddressed : Setup → Past → List ℕ → Content → Type 0
IsAddressed S past to m = (is_reply m ≡ false → to ≡ reached S past) × (is_reply m ≡ true → length to ≤ 1)

abbrev IsRight : Setup → Past → Outcome → Type 0
IsRight S past o = IfSome o.message (λ m. IsStampedData past m × IsAddressed S past o.to m)

caller_few : (past : Past) (p : ℕ) → length (caller past p) ≤ 1
caller_few past p = on (is_gone past.journal p)
  where
    on : (gone : Bool) → length (if gone then [] else p ∷ []) ≤ 1
    on true = omega arith
    on false = omega arith

either : (S : Setup) (past : Past) (b : Bool) (x y : Outcome) → IsRight S past x → IsRight S past y → IsRight S past (if b then x else y)
either S past true x y h i = h
either S past false x y h i = i

on_can_is : (S : Setup) (past : Past) (at : ServiceState) (f : Can → Outcome) → ((x : Can) → IsRight S past (f x)) → IsRight S past (on_can at f)
on_can_is S past (CanAt x) f h = h x
on_can_is S past (EthernetAt x) f h = tt
on_can_is S past (LinAt x) f h = tt
on_can_is S past (PublisherAt x) f h = tt
on_can_is S past SubscriberAt f h = tt
on_can_is S past (ServerAt x) f h = tt
on_can_is S past (ClientAt x) f h = tt

on_ethernet_is : (S : Setup) (past : Past) (at : ServiceState) (f : Bool → Outcome) → ((x : Bool) → IsRight S past (f x)) → IsRight S past (on_ethernet at f)
on_ethernet_is S past (CanAt x) f h = tt
on_ethernet_is S past (EthernetAt x) f h = h x
on_ethernet_is S past (LinAt x) f h = tt
on_ethernet_is S past (PublisherAt x) f h = tt
on_ethernet_is S past SubscriberAt f h = tt
on_ethernet_is S past (ServerAt x) f h = tt
on_ethernet_is S past (ClientAt x) f h = tt

on_lin_is : (S : Setup) (past : Past) (at : ServiceState) (f : Lin → Outcome) → ((x : Lin) → IsRight S past (f x)) → IsRight S past (on_lin at f)
on_lin_is S past (CanAt x) f h = tt
on_lin_is S past (EthernetAt x) f h = tt
on_lin_is S past (LinAt x) f h = h x
on_lin_is S past (PublisherAt x) f h = tt
on_lin_is S past SubscriberAt f h = tt
on_lin_is S past (ServerAt x) f h = tt
on_lin_is S past (ClientAt x) f h = tt

on_publisher_is : (S : Setup) (past : Past) (at : ServiceState) (f : Publishing → Outcome) → ((x : Publishing) → IsRight S past (f x)) → IsRight S past (on_publisher at f)
on_publisher_is S past (CanAt x) f h = tt
on_publisher_is S past (EthernetAt x) f h = tt
on_publisher_is S past (LinAt x) f h = tt
on_publisher_is S past (PublisherAt x) f h = h x
on_publisher_is S past SubscriberAt f h = tt
on_publisher_is S past (ServerAt x) f h = tt
on_publisher_is S past (ClientAt x) f h = tt

on_server_is : (S : Setup) (past : Past) (at : ServiceState) (f : List OpenCall → Outcome) → ((x : List OpenCall) → IsRight S past (f x)) → IsRight S past (on_server at f)
on_server_is S past (CanAt x) f h = tt
on_server_is S past (EthernetAt x) f h = tt
on_server_is S past (LinAt x) f h = tt
on_server_is S past (PublisherAt x) f h = tt
on_server_is S past SubscriberAt f h = tt
on_server_is S past (ServerAt x) f h = h x
on_server_is S past (ClientAt x) f h = tt

on_client_is : (S : Setup) (past : Past) (at : ServiceState) (f : ℕ → Outcome) → ((x : ℕ) → IsRight S past (f x)) → IsRight S past (on_client at f)
on_client_is S past (CanAt x) f h = tt
on_client_is S past (EthernetAt x) f h = tt
on_client_is S past (LinAt x) f h = tt
on_client_is S past (PublisherAt x) f h = tt
on_client_is S past SubscriberAt f h = tt
on_client_is S past (ServerAt x) f h = tt
on_client_is S past (ClientAt x) f h = h x

turned_is : (S : Setup) (past : Past) (at : ServiceState) (o : Option CanState) (after : Can) → IsRight S past (turned at o after)
turned_is S past at None after = tt
turned_is S past at (Some state) after = tt

table_is : (S : Setup) (past : Past) (call : CanState → Option CanState) (at : ServiceState) → IsRight S past (by_table call at)
table_is S past call at = on_can_is S past at (λ can. turned at (call can.state) (moved (call can.state) can)) (λ can. turned_is S past at (call can.state) (moved (call can.state) can))

outcome_at_right : (S : Setup) (past : Past) (a : Action) (own : Service) (at : ServiceState) → IsRight S past (outcome_at S past a own at)
unfolding outcome_at
outcome_at_right S past (CanBaud s rate) own at = on_can_is S past at (λ can. turned at (can_baud can.state) (with_rate rate (can_baud can.state) can)) (λ can. turned_is S past at (can_baud can.state) (with_rate rate (can_baud can.state) can))
outcome_at_right S past (CanStart s) own at = table_is S past can_start at
outcome_at_right S past (CanStop s) own at = table_is S past can_stop at
outcome_at_right S past (CanReset s) own at = table_is S past can_reset at
outcome_at_right S past (CanSleep s) own at = table_is S past can_sleep at
outcome_at_right S past (CanSend s frame) own at = on_can_is S past at (λ can. if not (is_started can.state) then refused 1 at else if not (is_can_frame frame.id frame.extended frame.fd frame.payload) then refused 2 at else sends (reached S past) (contents.Can (head_at s past.journal) frame) at) (λ can. either S past (not (is_started can.state)) (refused 1 at) (if not (is_can_frame frame.id frame.extended frame.fd frame.payload) then refused 2 at else sends (reached S past) (contents.Can (head_at s past.journal) frame) at) tt (either S past (not (is_can_frame frame.id frame.extended frame.fd frame.payload)) (refused 2 at) (sends (reached S past) (contents.Can (head_at s past.journal) frame) at) tt ((refl, refl), ((λ e. refl), (λ e. absurd cc)))))
outcome_at_right S past (EthActivate s) own at = on_ethernet_is S past at (λ active. done (EthernetAt true)) (λ active. tt)
outcome_at_right S past (EthDeactivate s) own at = on_ethernet_is S past at (λ active. done (EthernetAt false)) (λ active. tt)
outcome_at_right S past (EthSend s frame) own at = on_ethernet_is S past at (λ active. if not active then refused 1 at else if not (is_sendable frame) then refused 2 at else sends (reached S past) (contents.Eth (head_at s past.journal) (padded frame)) at) (λ active. either S past (not active) (refused 1 at) (if not (is_sendable frame) then refused 2 at else sends (reached S past) (contents.Eth (head_at s past.journal) (padded frame)) at) tt (either S past (not (is_sendable frame)) (refused 2 at) (sends (reached S past) (contents.Eth (head_at s past.journal) (padded frame)) at) tt ((refl, refl), ((λ e. refl), (λ e. absurd cc)))))
outcome_at_right S past (LinInit s role) own at = on_lin_is S past at (λ lin. if is_uninit lin.state then done (LinAt (record lin { state = Operational; role = role })) else refused 1 at) (λ lin. either S past (is_uninit lin.state) (done (LinAt (record lin { state = Operational; role = role }))) (refused 1 at) tt tt)
outcome_at_right S past (LinSetResponse s response) own at = on_lin_is S past at (λ lin. if not (is_operational lin.state) then refused 1 at else if not (is_lin_response response) then refused 2 at else sends (reached S past) (contents.LinResponse (head_at s past.journal) response) (LinAt (with_kept Own response lin))) (λ lin. either S past (not (is_operational lin.state)) (refused 1 at) (if not (is_lin_response response) then refused 2 at else sends (reached S past) (contents.LinResponse (head_at s past.journal) response) (LinAt (with_kept Own response lin))) tt (either S past (not (is_lin_response response)) (refused 2 at) (sends (reached S past) (contents.LinResponse (head_at s past.journal) response) (LinAt (with_kept Own response lin))) tt ((refl, refl), ((λ e. refl), (λ e. absurd cc)))))
outcome_at_right S past (LinHeader s id) own at = on_lin_is S past at (λ lin. if not (is_free_master lin) then refused 1 at else if not (is_lin_id id) then refused 2 at else sends (reached S past) (contents.Lin (head_at s past.journal) (header_frame id lin)) at) (λ lin. either S past (not (is_free_master lin)) (refused 1 at) (if not (is_lin_id id) then refused 2 at else sends (reached S past) (contents.Lin (head_at s past.journal) (header_frame id lin)) at) tt (either S past (not (is_lin_id id)) (refused 2 at) (sends (reached S past) (contents.Lin (head_at s past.journal) (header_frame id lin)) at) tt ((refl, refl), ((λ e. refl), (λ e. absurd cc)))))
outcome_at_right S past (LinSendFrame s response) own at = on_lin_is S past at (λ lin. if not (is_free_master lin) then refused 1 at else if not (is_lin_response response && is_sent response.mode) then refused 2 at else sends (reached S past) (contents.Lin (head_at s past.journal) (header_frame response.id (with_kept Own response lin))) (LinAt (with_kept Own response lin))) (λ lin. either S past (not (is_free_master lin)) (refused 1 at) (if not (is_lin_response response && is_sent response.mode) then refused 2 at else sends (reached S past) (contents.Lin (head_at s past.journal) (header_frame response.id (with_kept Own response lin))) (LinAt (with_kept Own response lin))) tt (either S past (not (is_lin_response response && is_sent response.mode)) (refused 2 at) (sends (reached S past) (contents.Lin (head_at s past.journal) (header_frame response.id (with_kept Own response lin))) (LinAt (with_kept Own response lin))) tt ((refl, refl), ((λ e. refl), (λ e. absurd cc)))))
outcome_at_right S past (LinSleep s) own at = on_lin_is S past at (λ lin. if not (is_free_master lin) then refused 1 at else sends (reached S past) (contents.Lin (head_at s past.journal) sleep_frame) (LinAt (record lin { state = Sleep }))) (λ lin. either S past (not (is_free_master lin)) (refused 1 at) (sends (reached S past) (contents.Lin (head_at s past.journal) sleep_frame) (LinAt (record lin { state = Sleep }))) tt ((refl, refl), ((λ e. refl), (λ e. absurd cc))))
outcome_at_right S past (LinWakeup s) own at = on_lin_is S past at (λ lin. if not (is_asleep lin.state) then refused 1 at else sends (reached S past) (contents.Lin (head_at s past.journal) wakeup_frame) (LinAt (record lin { state = Operational }))) (λ lin. either S past (not (is_asleep lin.state)) (refused 1 at) (sends (reached S past) (contents.Lin (head_at s past.journal) wakeup_frame) (LinAt (record lin { state = Operational }))) tt ((refl, refl), ((λ e. refl), (λ e. absurd cc))))
outcome_at_right S past (Publish s payload) own at = on_publisher_is S past at (λ publisher. sends (reached S past) (contents.Publish (head_at s past.journal) payload) (PublisherAt (published payload publisher))) (λ last. ((refl, refl), ((λ e. refl), (λ e. absurd cc))))
outcome_at_right S past (Call s payload) own at = on_client_is S past at (λ made. if not (has_server S past own) then refused 3 at else sends (reached S past) (contents.Call (head_at s past.journal) (made + 1) payload) (ClientAt (made + 1))) (λ made. either S past (not (has_server S past own)) (refused 3 at) (sends (reached S past) (contents.Call (head_at s past.journal) (made + 1) payload) (ClientAt (made + 1))) tt ((refl, refl), ((λ e. refl), (λ e. absurd cc))))
outcome_at_right S past (Submit s peer client call payload) own at = on_server_is S past at (λ calls. if not (has_call (call_of peer client call) calls) then refused 4 at else sends (caller past peer) (contents.Reply (head_at s past.journal) client call payload) (ServerAt (without (call_of peer client call) calls))) (λ calls. either S past (not (has_call (call_of peer client call) calls)) (refused 4 at) (sends (caller past peer) (contents.Reply (head_at s past.journal) client call payload) (ServerAt (without (call_of peer client call) calls))) tt ((refl, refl), ((λ e. absurd cc), (λ e. caller_few past peer))))
outcome_at_right S past (Ask command) own at = tt
outcome_at_right S past (PauseFor count) own at = tt

outcome_of_right : (S : Setup) (past : Past) (a : Action) (own : Option Service) (at : Option ServiceState) → IsRight S past (outcome_of S past a own at)
outcome_of_right S past a (Some own) (Some at) = outcome_at_right S past a own at
outcome_of_right S past a (Some own) None = tt
outcome_of_right S past a None (Some at) = tt
outcome_of_right S past a None None = tt

outcome_right : (S : Setup) (past : Past) (a : Action) → IsRight S past (outcome S past a)
outcome_right S past a = outcome_of_right S past a (slice_get S.services (named a)) (slice_get past.memory.services (named a))

first : (o : Option Content) (P Q : Content → Type 0) → IfSome o (λ m. P m × Q m) → IfSome o P
first None P Q h = tt
first (Some m) P Q h = h.0

second : (o : Option Content) (P Q : Content → Type 0) → IfSome o (λ m. P m × Q m) → IfSome o Q
second None P Q h = tt
second (Some m) P Q h = h.1

pub outcome_of_is : (S : Setup) (past : Past) (a : Action) (own : Option Service) (at : Option ServiceState) → IsStamped S past (outcome_of S past a own at)
outcome_of_is S past a own at =
    first (outcome_of S past a own at).message (IsStampedData past) (IsAddressed S past (outcome_of S past a own at).to) (outcome_of_right S past a own at)

pub outcome_is : (S : Setup) (past : Past) (a : Action) → IsStamped S past (outcome S past a)
outcome_is S past a = first (outcome S past a).message (IsStampedData past) (IsAddressed S past (outcome S past a).to) (outcome_right S past a)

-- to whom it goes
pub outcome_goes : (S : Setup) (past : Past) (a : Action) → IfSome (outcome S past a).message (IsAddressed S past (outcome S past a).to)
outcome_goes S past a = second (outcome S past a).message (IsStampedData past) (IsAddressed S past (outcome S past a).to) (outcome_right S past a)
