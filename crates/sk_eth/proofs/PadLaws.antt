-- What padding makes of a frame.
use Rattle.std.proofs.Common.{◌≡◌, ◌≤◌, ◌-◌, ◌+◌, ℕ, List, [], ◌++◌, length, drop, Result, Ok, Err, ap, sym, ◌∙◌, arith, rules}
use Rattle.std.proofs.Math.ListN.{replicate}
use Rattle.std.specs.Prelude.{IsTrue, IfOk, true}
use Rattle.std.proofs.lemmas.List.{append-nil, length-append, length-replicate, drop-replicate}
use Rattle.sk_base.specs.Ranges.{is_payload}
use Rattle.sk_msg.specs.Rules.{is_eth_frame}
use Rattle.sk_eth.specs.Ethernet.{is_sendable, padded}

pub pad_short : (frame : List ℕ) → frame ++ drop (length frame) (replicate {A = ℕ} 60 0) ≡ padded frame
unfolding padded
pad_short frame = ap (λ behind. frame ++ behind) (drop-replicate (length frame) 60 0)

no_zeros : (n : ℕ) → 60 ≤ n → replicate {A = ℕ} (60 - n) 0 ≡ []
no_zeros n long = let none : 60 - n ≡ 0 = omega arith in ap (λ k. replicate {A = ℕ} k 0) none

pub pad_long : (frame : List ℕ) → 60 ≤ length frame → padded frame ≡ frame
unfolding padded
pad_long frame long = ap (λ behind. frame ++ behind) (no_zeros (length frame) long) ∙ append-nil frame

pub length-padded : (frame : List ℕ) → length (padded frame) ≡ length frame + (60 - length frame)
unfolding padded
length-padded frame = length-append frame (replicate {A = ℕ} (60 - length frame) 0) ∙ ap (λ n. length frame + n) (length-replicate (60 - length frame) 0)

valid_padded : (frame : List ℕ) → IsTrue (is_sendable frame) → IsTrue (is_eth_frame (padded frame))
unfolding is_sendable is_eth_frame
valid_padded frame sendable = rw (length-padded frame) (search rules)

-- what is sent is a frame that a message may have
pub valid_sent : (sent frame : List ℕ) → sent ≡ padded frame → is_sendable frame ≡ true → IsTrue (is_eth_frame sent)
valid_sent sent frame is sendable = rw is (valid_padded frame sendable)

-- ## Bytes that were made of a padded frame

module _ {E : Type 0} (result : Result (List ℕ) E) (frame whole : List ℕ) where
  -- of a short frame with zeros behind it
  pub made_short : whole ≡ frame ++ drop (length frame) (replicate {A = ℕ} 60 0) → IfOk result (λ made. (made ≡ whole) × IsTrue (is_payload whole)) → IfOk result (λ sent. sent ≡ padded frame)
  made_short is made = on result made
    where
      on : (r : Result (List ℕ) E) → IfOk r (λ made. (made ≡ whole) × IsTrue (is_payload whole)) → IfOk r (λ sent. sent ≡ padded frame)
      on (Ok sent) made = made.0 ∙ is ∙ pad_short frame
      on (Err fault) made = tt

  -- of a long frame as it is
  pub made_long : 60 ≤ length frame → IfOk result (λ made. (made ≡ frame) × IsTrue (is_payload frame)) → IfOk result (λ sent. sent ≡ padded frame)
  made_long long made = on result made
    where
      on : (r : Result (List ℕ) E) → IfOk r (λ made. (made ≡ frame) × IsTrue (is_payload frame)) → IfOk r (λ sent. sent ≡ padded frame)
      on (Ok sent) made = made.0 ∙ sym (pad_long frame long)
      on (Err fault) made = tt
