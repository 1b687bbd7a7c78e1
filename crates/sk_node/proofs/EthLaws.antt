-- What actions on Ethernet controllers come to.
use Rattle.std.specs.Prelude.{◌≡◌, ◌≢◌, ◌⊎◌, refl, ℕ, Bool, true, false, not, List, length, Option, Some, None, if◌then◌else◌}
use Rattle.std.proofs.Common.{ap, inl, inr, sym, ◌∙◌}
use Rattle.sk_msg.specs.declared.content.Content.{Content}
use Rattle.sk_eth.specs.Ethernet.{is_sendable, refusal, IsReason}
use Rattle.sk_eth.specs.declared.refused.EthRefused.{EthRefused}
use Rattle.sk_eth.specs.declared.refused.EthRefused.TheVariants.{ControllerInactive, InvalidFrameFormat, WantOfMemory}
use Rattle.sk_law.specs.declared.memory.ServiceState.TheVariants as states
use Rattle.sk_law.specs.Outcomes.{Outcome, refused, sends, ethernet_sends}
use Rattle.sk_node.specs.Acting.{eth_code}

-- the two tests, by their answers
abbrev pub against : Bool → Bool → ℕ → Option EthRefused
against active good n = if not active then Some ControllerInactive else if not good then Some (InvalidFrameFormat n) else None

against_is : (active : Bool) (frame : List ℕ) → refusal active frame ≡ against active (is_sendable frame) (length frame)
unfolding refusal
against_is active frame = refl

passes : (active good : Bool) (n : ℕ) (a b c : Outcome) → against active good n ≡ None → c ≡ (if not active then a else if not good then b else c)
passes true true n a b c e = refl
passes true false n a b c e = absurd cc
passes false good n a b c e = absurd cc

inactive : (active good : Bool) (n : ℕ) (a b c : Outcome) → against active good n ≡ Some ControllerInactive → a ≡ (if not active then a else if not good then b else c)
inactive false good n a b c e = refl
inactive true false n a b c e = absurd cc
inactive true true n a b c e = absurd cc

invalid : (active good : Bool) (n k : ℕ) (a b c : Outcome) → against active good n ≡ Some (InvalidFrameFormat k) → b ≡ (if not active then a else if not good then b else c)
invalid true false n k a b c e = refl
invalid true true n k a b c e = absurd cc
invalid false good n k a b c e = absurd cc

pub sent_frame : (to : List ℕ) (m : Content) (active : Bool) (frame : List ℕ) → refusal active frame ≡ None → sends to m (states.Ethernet active) ≡ ethernet_sends to m frame (states.Ethernet active)
sent_frame to m active frame e =
    passes active (is_sendable frame) (length frame) (refused 1 (states.Ethernet active)) (refused 2 (states.Ethernet active)) (sends to m (states.Ethernet active)) (sym (against_is active frame) ∙ e)

unsent : (to : List ℕ) (m : Content) (active : Bool) (frame : List ℕ) (reason : EthRefused) → refusal active frame ≡ Some reason → reason ≢ WantOfMemory →
    refused (eth_code reason) (states.Ethernet active) ≡ ethernet_sends to m frame (states.Ethernet active)
unsent to m active frame ControllerInactive e known =
    inactive active (is_sendable frame) (length frame) (refused 1 (states.Ethernet active)) (refused 2 (states.Ethernet active)) (sends to m (states.Ethernet active)) (sym (against_is active frame) ∙ e)
unsent to m active frame (InvalidFrameFormat k) e known =
    invalid active (is_sendable frame) (length frame) k (refused 1 (states.Ethernet active)) (refused 2 (states.Ethernet active)) (sends to m (states.Ethernet active)) (sym (against_is active frame) ∙ e)
unsent to m active frame WantOfMemory e known = absurd (known refl)

pub unsent_is : (to : List ℕ) (m : Content) (active : Bool) (slice frame : List ℕ) (reason : EthRefused) → slice ≡ frame → IsReason (refusal active slice) reason → reason ≢ WantOfMemory →
    refused (eth_code reason) (states.Ethernet active) ≡ ethernet_sends to m frame (states.Ethernet active)
unsent_is to m active slice frame reason s is known =
    unsent to m active frame reason (ap (refusal active) (sym s) ∙ reason_is is) known
  where
    reason_is : (reason ≡ WantOfMemory) ⊎ (refusal active slice ≡ Some reason) → refusal active slice ≡ Some reason
    reason_is (inl e) = absurd (known e)
    reason_is (inr e) = e
