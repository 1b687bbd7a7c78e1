-- What actions on LIN controllers come to.
use Rattle.std.specs.Prelude.{◌≡◌, ◌≢◌, ℕ, ◌&&◌, List, Some, None, IsTrue}
use Rattle.std.proofs.Common.{ap, sym, ◌∙◌, subst}
use Rattle.std.proofs.lemmas.Bool.{and_parts}
use Rattle.sk_msg.specs.Rules.{is_lin_id, is_lin_payload, is_sent}
use Rattle.sk_msg.specs.declared.bus.LinFrame.{LinFrame}
use Rattle.sk_msg.specs.declared.bus.LinResponse.{LinResponse}
use Rattle.sk_msg.specs.declared.bus.LinRole.{LinRole}
use Rattle.sk_msg.specs.declared.content.Content.{Content}
use Rattle.sk_msg.specs.declared.content.Content.TheVariants as contents
use Rattle.sk_msg.specs.declared.head.Head.{Head}
use Rattle.sk_lin.specs.Lin.{Lin, with_kept, header_frame, is_uninit, is_operational, is_asleep, is_master, is_lin_response, sleep_frame, wakeup_frame, init_refusal, set_refusal, master_refusal, header_refusal, frame_refusal, wakeup_refusal, IsReason}
use Rattle.sk_lin.specs.declared.kept.Source.TheVariants.{Own}
use Rattle.sk_lin.specs.declared.refused.LinRefused.{LinRefused}
use Rattle.sk_lin.specs.declared.refused.LinRefused.TheVariants.{WantOfMemory}
use Rattle.sk_lin.specs.declared.state.LinState.TheVariants.{Operational, Sleep}
use Rattle.sk_law.specs.declared.memory.ServiceState.{ServiceState}
use Rattle.sk_law.specs.declared.memory.ServiceState.TheVariants as states
use Rattle.sk_law.specs.Outcomes.{done, refused, sends}
use Rattle.sk_node.specs.Acting.{outcome_by, lin_code, lin_inits, lin_sets, lin_heads, lin_sends, lin_sleeps, lin_wakes}
use Rattle.sk_node.specs.declared.services.Answer.{Answer}
use Rattle.sk_node.proofs.Choosing.{init_passes, init_refused, one_passes, one_against, two_pass, two_good, two_against, role_passes, role_against, three_pass, three_against}

-- this answer sends this to these
abbrev pub Sends : Answer → List ℕ → Content → Type 0
Sends r to m = (at : ServiceState) → outcome_by r at ≡ sends to m at

-- this one refuses for this reason
abbrev pub Refuses : Answer → LinRefused → Type 0
Refuses r reason = (at : ServiceState) → outcome_by r at ≡ refused (lin_code reason) at

-- ## LinInit

pub init_done : (role : LinRole) (at : ServiceState) (lin new : Lin) (r : Answer) → at ≡ states.Lin lin → new ≡ record lin { state = Operational; role = role } → init_refusal lin ≡ None →
    ((at : ServiceState) → outcome_by r at ≡ done at) → outcome_by r (states.Lin new) ≡ lin_inits role at
init_done role at lin new r e n pass is =
    is (states.Lin new) ∙ ap (λ x. done (states.Lin x)) n
    ∙ init_passes (is_uninit lin.state) lin.state (refused 1 (states.Lin lin)) (done (states.Lin (record lin { state = Operational; role = role }))) pass
    ∙ ap (lin_inits role) (sym e)

pub init_not : (role : LinRole) (at : ServiceState) (lin new : Lin) (reason : LinRefused) (r : Answer) → at ≡ states.Lin lin → new ≡ lin → init_refusal lin ≡ Some reason →
    ((at : ServiceState) → outcome_by r at ≡ refused 1 at) → outcome_by r (states.Lin new) ≡ lin_inits role at
init_not role at lin new reason r e n fail is =
    is (states.Lin new) ∙ ap (λ x. refused 1 (states.Lin x)) n
    ∙ init_refused (is_uninit lin.state) lin.state reason (refused 1 (states.Lin lin)) (done (states.Lin (record lin { state = Operational; role = role }))) fail
    ∙ ap (lin_inits role) (sym e)

-- ## LinSetResponse

valid_id : (response : LinResponse) → IsTrue (is_lin_response response) → IsTrue (is_lin_id response.id)
unfolding is_lin_response
valid_id response h = (and_parts _ _ h).0

valid_bytes : (response : LinResponse) → IsTrue (is_lin_response response) → IsTrue (is_lin_payload (is_sent response.mode) response.checksum response.payload)
unfolding is_lin_response
valid_bytes response h = (and_parts _ _ h).1

good_told : (lin : Lin) (kept told response : LinResponse) → kept ≡ response → told ≡ response → set_refusal lin kept ≡ None → IsTrue (is_lin_response told)
good_told lin kept told response k t pass =
    subst (λ x. IsTrue (is_lin_response x)) (k ∙ sym t) (two_good (is_operational lin.state) (is_lin_response kept) lin.state pass)

pub told_id : (lin : Lin) (kept told response : LinResponse) → kept ≡ response → told ≡ response → set_refusal lin kept ≡ None → IsTrue (is_lin_id told.id)
told_id lin kept told response k t pass = valid_id told (good_told lin kept told response k t pass)

pub told_bytes : (lin : Lin) (kept told response : LinResponse) → kept ≡ response → told ≡ response → set_refusal lin kept ≡ None →
    IsTrue (is_lin_payload (is_sent told.mode) told.checksum told.payload)
told_bytes lin kept told response k t pass = valid_bytes told (good_told lin kept told response k t pass)

pub set_sent : (to : List ℕ) (head : Head) (kept told response : LinResponse) (m : Content) (at : ServiceState) (lin new : Lin) (r : Answer) →
    at ≡ states.Lin lin → kept ≡ response → told ≡ response → m ≡ contents.LinResponse head told → new ≡ with_kept Own kept lin → set_refusal lin kept ≡ None → Sends r to m →
    outcome_by r (states.Lin new) ≡ lin_sets to head response at
set_sent to head kept told response m at lin new r e k t is n pass sent =
    sent (states.Lin new)
    ∙ ap (λ x. sends to x (states.Lin new)) (is ∙ ap (contents.LinResponse head) t)
    ∙ ap (λ x. sends to (contents.LinResponse head response) (states.Lin x)) (n ∙ ap (λ x. with_kept Own x lin) k)
    ∙ two_pass (is_operational lin.state) (is_lin_response response) lin.state (refused 1 (states.Lin lin)) (refused 2 (states.Lin lin))
    (sends to (contents.LinResponse head response) (states.Lin (with_kept Own response lin))) (subst (λ x. set_refusal lin x ≡ None) k pass)
    ∙ ap (lin_sets to head response) (sym e)

pub set_not : (to : List ℕ) (head : Head) (kept response : LinResponse) (at : ServiceState) (lin new : Lin) (reason : LinRefused) (r : Answer) →
    at ≡ states.Lin lin → kept ≡ response → new ≡ lin → IsReason (set_refusal lin kept) reason → reason ≢ WantOfMemory → Refuses r reason →
    outcome_by r (states.Lin new) ≡ lin_sets to head response at
set_not to head kept response at lin new reason r e k n is known refuses =
    refuses (states.Lin new)
    ∙ ap (λ x. refused (lin_code reason) (states.Lin x)) n
    ∙ two_against (is_operational lin.state) (is_lin_response response) lin.state reason (states.Lin lin)
    (sends to (contents.LinResponse head response) (states.Lin (with_kept Own response lin))) (subst (λ x. IsReason (set_refusal lin x) reason) k is) known
    ∙ ap (lin_sets to head response) (sym e)

-- ## LinHeader

pub header_sent : (to : List ℕ) (head : Head) (id : ℕ) (at : ServiceState) (lin : Lin) (frame : LinFrame) (r : Answer) →
    at ≡ states.Lin lin → frame ≡ header_frame id lin → header_refusal lin id ≡ None → Sends r to (contents.Lin head frame) →
    outcome_by r at ≡ lin_heads to head id at
header_sent to head id at lin frame r e f pass sent =
    sent at ∙ ap (λ x. sends to (contents.Lin head x) at) f
    ∙ subst (λ s. sends to (contents.Lin head (header_frame id lin)) s ≡ lin_heads to head id s) (sym e)
    (three_pass (is_operational lin.state) (is_master lin.role) (is_lin_id id) lin.state (refused 1 (states.Lin lin)) (refused 2 (states.Lin lin))
    (sends to (contents.Lin head (header_frame id lin)) (states.Lin lin)) pass)

pub header_not : (to : List ℕ) (head : Head) (id : ℕ) (at : ServiceState) (lin : Lin) (reason : LinRefused) (r : Answer) →
    at ≡ states.Lin lin → IsReason (header_refusal lin id) reason → reason ≢ WantOfMemory → Refuses r reason →
    outcome_by r at ≡ lin_heads to head id at
header_not to head id at lin reason r e is known refuses =
    refuses at
    ∙ subst (λ s. refused (lin_code reason) s ≡ lin_heads to head id s) (sym e)
    (three_against (is_operational lin.state) (is_master lin.role) (is_lin_id id) lin.state reason (states.Lin lin)
    (sends to (contents.Lin head (header_frame id lin)) (states.Lin lin)) is known)

-- ## LinSendFrame

pub frame_sent : (to : List ℕ) (head : Head) (kept response : LinResponse) (at : ServiceState) (lin new : Lin) (frame : LinFrame) (r : Answer) →
    at ≡ states.Lin lin → kept ≡ response → frame ≡ header_frame kept.id (with_kept Own kept lin) → new ≡ with_kept Own kept lin → frame_refusal lin kept ≡ None → Sends r to (contents.Lin head frame) →
    outcome_by r (states.Lin new) ≡ lin_sends to head response at
frame_sent to head kept response at lin new frame r e k f n pass sent =
    sent (states.Lin new)
    ∙ ap (λ x. sends to (contents.Lin head x) (states.Lin new)) f
    ∙ ap (λ x. sends to (contents.Lin head (header_frame kept.id (with_kept Own kept lin))) (states.Lin x)) n
    ∙ three_pass (is_operational lin.state) (is_master lin.role) (is_lin_response kept && is_sent kept.mode) lin.state (refused 1 (states.Lin lin)) (refused 2 (states.Lin lin))
    (sends to (contents.Lin head (header_frame kept.id (with_kept Own kept lin))) (states.Lin (with_kept Own kept lin))) pass
    ∙ ap (λ x. lin_sends to head x (states.Lin lin)) k
    ∙ ap (lin_sends to head response) (sym e)

pub frame_not : (to : List ℕ) (head : Head) (kept response : LinResponse) (at : ServiceState) (lin new : Lin) (reason : LinRefused) (r : Answer) →
    at ≡ states.Lin lin → kept ≡ response → new ≡ lin → IsReason (frame_refusal lin kept) reason → reason ≢ WantOfMemory → Refuses r reason →
    outcome_by r (states.Lin new) ≡ lin_sends to head response at
frame_not to head kept response at lin new reason r e k n is known refuses =
    refuses (states.Lin new)
    ∙ ap (λ x. refused (lin_code reason) (states.Lin x)) n
    ∙ three_against (is_operational lin.state) (is_master lin.role) (is_lin_response kept && is_sent kept.mode) lin.state reason (states.Lin lin)
    (sends to (contents.Lin head (header_frame kept.id (with_kept Own kept lin))) (states.Lin (with_kept Own kept lin))) is known
    ∙ ap (λ x. lin_sends to head x (states.Lin lin)) k
    ∙ ap (lin_sends to head response) (sym e)

-- ## LinSleep and LinWakeup

pub sleep_sent : (to : List ℕ) (head : Head) (at : ServiceState) (lin new : Lin) (frame : LinFrame) (r : Answer) →
    at ≡ states.Lin lin → frame ≡ sleep_frame → new ≡ record lin { state = Sleep } → master_refusal lin ≡ None → Sends r to (contents.Lin head frame) →
    outcome_by r (states.Lin new) ≡ lin_sleeps to head at
sleep_sent to head at lin new frame r e f n pass sent =
    sent (states.Lin new)
    ∙ ap (λ x. sends to (contents.Lin head x) (states.Lin new)) f
    ∙ ap (λ x. sends to (contents.Lin head sleep_frame) (states.Lin x)) n
    ∙ role_passes (is_operational lin.state) (is_master lin.role) lin.state (refused 1 (states.Lin lin)) (sends to (contents.Lin head sleep_frame) (states.Lin (record lin { state = Sleep }))) pass
    ∙ ap (lin_sleeps to head) (sym e)

pub sleep_not : (to : List ℕ) (head : Head) (at : ServiceState) (lin new : Lin) (reason : LinRefused) (r : Answer) →
    at ≡ states.Lin lin → new ≡ lin → IsReason (master_refusal lin) reason → reason ≢ WantOfMemory → Refuses r reason →
    outcome_by r (states.Lin new) ≡ lin_sleeps to head at
sleep_not to head at lin new reason r e n is known refuses =
    refuses (states.Lin new)
    ∙ ap (λ x. refused (lin_code reason) (states.Lin x)) n
    ∙ role_against (is_operational lin.state) (is_master lin.role) lin.state reason (states.Lin lin) (sends to (contents.Lin head sleep_frame) (states.Lin (record lin { state = Sleep }))) is known
    ∙ ap (lin_sleeps to head) (sym e)

pub wake_sent : (to : List ℕ) (head : Head) (at : ServiceState) (lin new : Lin) (frame : LinFrame) (r : Answer) →
    at ≡ states.Lin lin → frame ≡ wakeup_frame → new ≡ record lin { state = Operational } → wakeup_refusal lin ≡ None → Sends r to (contents.Lin head frame) →
    outcome_by r (states.Lin new) ≡ lin_wakes to head at
wake_sent to head at lin new frame r e f n pass sent =
    sent (states.Lin new)
    ∙ ap (λ x. sends to (contents.Lin head x) (states.Lin new)) f
    ∙ ap (λ x. sends to (contents.Lin head wakeup_frame) (states.Lin x)) n
    ∙ one_passes (is_asleep lin.state) lin.state (refused 1 (states.Lin lin)) (sends to (contents.Lin head wakeup_frame) (states.Lin (record lin { state = Operational }))) pass
    ∙ ap (lin_wakes to head) (sym e)

pub wake_not : (to : List ℕ) (head : Head) (at : ServiceState) (lin new : Lin) (reason : LinRefused) (r : Answer) →
    at ≡ states.Lin lin → new ≡ lin → IsReason (wakeup_refusal lin) reason → reason ≢ WantOfMemory → Refuses r reason →
    outcome_by r (states.Lin new) ≡ lin_wakes to head at
wake_not to head at lin new reason r e n is known refuses =
    refuses (states.Lin new)
    ∙ ap (λ x. refused (lin_code reason) (states.Lin x)) n
    ∙ one_against (is_asleep lin.state) lin.state reason (states.Lin lin) (sends to (contents.Lin head wakeup_frame) (states.Lin (record lin { state = Operational }))) is known
    ∙ ap (lin_wakes to head) (sym e)
