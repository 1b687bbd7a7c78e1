-- What actions on CAN controllers come to.
use Rattle.std.specs.Prelude.{◌≡◌, refl, ℕ, Bool, true, false, not, ◌&&◌, List, Option, Some, None, Result, Ok, Err, is_ok, if◌then◌else◌}
use Rattle.std.proofs.Common.{ap, sym, ◌∙◌}
use Rattle.sk_msg.specs.Rules.{is_can_frame}
use Rattle.sk_msg.specs.declared.content.Content.{Content}
use Rattle.sk_msg.specs.declared.bus.CanFrame.{CanFrame}
use Rattle.sk_can.specs.Can.{Can, answer, is_started, is_can_id, is_can_length, is_let_through, send_answer}
use Rattle.sk_can.specs.declared.state.CanState.{CanState}
use Rattle.sk_can.specs.declared.refused.CanRefused.{CanRefused}
use Rattle.sk_can.specs.declared.refused.CanRefused.TheVariants.{State, BadFrame}
use Rattle.sk_can.specs.declared.refused.FrameRule.{FrameRule}
use Rattle.sk_can.specs.declared.refused.FrameRule.TheVariants.{Identifier, Length}
use Rattle.sk_law.specs.declared.memory.ServiceState.{ServiceState}
use Rattle.sk_law.specs.declared.memory.ServiceState.TheVariants as states
use Rattle.sk_law.specs.Outcomes.{done, refused, sends, turned, on_can, can_sends}
use Rattle.sk_node.specs.Acting.{can_code, outcome_by}
use Rattle.sk_node.specs.declared.services.Answer.{Answer}
use Rattle.sk_node.proofs.Choosing.{first_is, second_is, third_is, left_is, right_is, right_fails}

-- ## The table

pub turned_ok : (a : Result (Unit {0}) CanRefused) (x : Unit {0}) (to : Option CanState) (from : CanState) (can after : Can) → a ≡ Ok x → a ≡ answer to from → done (states.Can after) ≡ turned (states.Can can) to after
turned_ok a x (Some to) from can after e h = refl
turned_ok a x None from can after e h = absurd cc

pub turned_err : (a : Result (Unit {0}) CanRefused) (r : CanRefused) (to : Option CanState) (from : CanState) (can after : Can) → a ≡ Err r → a ≡ answer to from → (to ≡ None → after ≡ can) → refused 1 (states.Can after) ≡ turned (states.Can can) to after
turned_err a r (Some to) from can after e h k = absurd cc
turned_err a r None from can after e h k = ap (λ x. refused 1 (states.Can x)) (k refl)

-- a call of the table on a controller
pub by_call : (call : CanState → Option CanState) (moves : Option CanState → Can → Can) → ((can : Can) → moves None can ≡ can) →
    (at : ServiceState) (can new : Can) (r : Answer) (a : Result (Unit {0}) CanRefused) → at ≡ states.Can can → new ≡ moves (call can.state) can →
    ((to : Option CanState) → (from : CanState) → (can : Can) → (after : Can) → a ≡ answer to from → (to ≡ None → after ≡ can) → outcome_by r (states.Can after) ≡ turned (states.Can can) to after) →
    a ≡ answer (call can.state) can.state →
    outcome_by r (states.Can new) ≡ on_can at (λ c. turned at (call c.state) (moves (call c.state) c))
by_call call moves none at can new r a e n turns h =
    turns (call can.state) can.state can new h (λ t. n ∙ ap (λ x. moves x can) t ∙ none can)
    ∙ ap (turned (states.Can can) (call can.state)) n
    ∙ ap (λ s. on_can s (λ c. turned s (call c.state) (moves (call c.state) c))) (sym e)

-- ## Frames

-- the three tests, by their answers
abbrev pub tested : Bool → Bool → Bool → CanState → Result (Unit {0}) CanRefused
tested started id length state =
    if not started then Err (State state) else
    if not id then Err (BadFrame Identifier) else
    if not length then Err (BadFrame Length) else
    Ok tt

tested_is : (state : CanState) (frame : CanFrame) → send_answer state frame ≡ tested (is_started state) (is_can_id frame.id frame.extended) (is_can_length frame.fd frame.payload) state
unfolding send_answer
tested_is state frame = refl

state_only : (started id length : Bool) (s x : CanState) → Err (State x) ≡ tested started id length s → started ≡ false
state_only false id length s x e = refl
state_only true false length s x e = absurd cc
state_only true true false s x e = absurd cc
state_only true true true s x e = absurd cc

frame_only : (started id length : Bool) (s : CanState) (rule : FrameRule) → Err (BadFrame rule) ≡ tested started id length s → started ≡ true
frame_only true id length s rule e = refl
frame_only false id length s rule e = absurd cc

unsent_state : (to : List ℕ) (m : Content) (can : Can) (frame : CanFrame) (x : CanState) (r : Result (Unit {0}) CanRefused) → r ≡ Err (State x) → r ≡ send_answer can.state frame →
    refused 1 (states.Can can) ≡ can_sends to m frame (states.Can can)
unsent_state to m can frame x r e h =
    first_is (is_started can.state) (is_can_frame frame.id frame.extended frame.fd frame.payload) (refused 1 (states.Can can)) (refused 2 (states.Can can)) (sends to m (states.Can can))
    (state_only (is_started can.state) (is_can_id frame.id frame.extended) (is_can_length frame.fd frame.payload) can.state x (sym e ∙ h ∙ tested_is can.state frame))

unsent_frame : (to : List ℕ) (m : Content) (can : Can) (frame : CanFrame) (rule : FrameRule) (r : Result (Unit {0}) CanRefused) → r ≡ Err (BadFrame rule) → r ≡ send_answer can.state frame →
    is_ok r ≡ is_let_through can.state frame → refused 2 (states.Can can) ≡ can_sends to m frame (states.Can can)
unsent_frame to m can frame rule r e h x =
    let fits : Bool = is_can_frame frame.id frame.extended frame.fd frame.payload in
    let started : is_started can.state ≡ true = frame_only (is_started can.state) (is_can_id frame.id frame.extended) (is_can_length frame.fd frame.payload) can.state rule (sym e ∙ h ∙ tested_is can.state frame) in
    second_is (is_started can.state) fits (refused 1 (states.Can can)) (refused 2 (states.Can can)) (sends to m (states.Can can)) started
    (right_fails (is_started can.state) fits started (sym (ap is_ok e) ∙ x))

pub sent_frame : (to : List ℕ) (m : Content) (can : Can) (frame : CanFrame) (u : Unit {0}) (r : Result (Unit {0}) CanRefused) → r ≡ Ok u → is_ok r ≡ is_let_through can.state frame →
    sends to m (states.Can can) ≡ can_sends to m frame (states.Can can)
sent_frame to m can frame u r e x =
    let fits : Bool = is_can_frame frame.id frame.extended frame.fd frame.payload in
    let both : true ≡ (is_started can.state && fits) = sym (ap is_ok e) ∙ x in
    third_is (is_started can.state) fits (refused 1 (states.Can can)) (refused 2 (states.Can can)) (sends to m (states.Can can))
    (left_is (is_started can.state) fits both) (right_is (is_started can.state) fits both)

pub unsent : (to : List ℕ) (m : Content) (can : Can) (frame : CanFrame) (reason : CanRefused) (r : Result (Unit {0}) CanRefused) → r ≡ Err reason → r ≡ send_answer can.state frame →
    is_ok r ≡ is_let_through can.state frame → refused (can_code reason) (states.Can can) ≡ can_sends to m frame (states.Can can)
unsent to m can frame (State x) r e h i = unsent_state to m can frame x r e h
unsent to m can frame (BadFrame rule) r e h i = unsent_frame to m can frame rule r e h i
