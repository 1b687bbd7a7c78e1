-- A piece as part of the whole stream.
use Rattle.std.proofs.Common.{◌≡◌, ℕ, ◌+◌, ◌-◌, Some, None, List, [], ◌++◌, length, Option, refl, sym, ◌∙◌, ap, subst, arith, append-nil, length-append}
use mathlib.Core.List.{IsPrefix}
use Rattle.sk_msg.specs.declared.content.Content.{Content}
use Rattle.sk_wire.specs.declared.fault.WireFault.{WireFault}
use Rattle.sk_wire.specs.Stream.{Parts}
use Rattle.sk_wire.specs.Seen.{following}
use Rattle.sk_wire.specs.Parts.{parts, messages, rest, fault}
use Rattle.sk_wire.specs.Feeding.{Waiting, Feeds, FeedsFrom, fed_with, Continues, GoesOn}
use Rattle.sk_wire.proofs.StreamLaws.{parts-more, parts-faulty}

record_of : (r : List ℕ) (n : ℕ) (o : Option WireFault) (w : Waiting) → w.rest ≡ r → w.fed ≡ n → w.fault ≡ o → w ≡ record { rest = r; fed = n; fault = o }
record_of r n o w a b c =
    ap (λ (x : List ℕ). record w { rest = x }) a ∙ ap (λ (x : ℕ). record w { rest = r; fed = x }) b ∙ ap (λ (x : Option WireFault). record w { rest = r; fed = n; fault = x }) c

on : (b piece : List ℕ) (ms : List Content) (o : Option WireFault) (new : Waiting) (before : Option WireFault) → fault b ≡ before →
    FeedsFrom before (fed_with b) piece ms o new → Continues b piece ms o new
on b piece ms o new None none h =
    let place : 0 + length b - length (rest b) ≡ length b - length (rest b) = omega arith in
    let whole : parts 0 (b ++ piece) ≡ following (messages b) (record { messages = ms; rest = new.rest; fault = o })
    = parts-more 0 b piece none ∙ ap (λ n. following (messages b) (parts n (rest b ++ piece))) place ∙ ap (following (messages b)) h.0 in
    record {
      stands = record_of (rest (b ++ piece)) (length (b ++ piece)) (fault (b ++ piece)) new
          (sym (ap (λ (p : Parts). p.rest) whole))
          (h.1 ∙ sym (length-append b piece))
          (h.2 ∙ sym (ap (λ (p : Parts). p.fault) whole));
      all = ap (λ (p : Parts). p.messages) whole;
      first = sym (ap (λ (p : Parts). p.fault) whole);
    }
on b piece ms o new (Some f) some h =
    let whole : parts 0 (b ++ piece) ≡ parts 0 b = parts-faulty 0 b piece f some in
    record {
      stands = record_of (rest (b ++ piece)) (length (b ++ piece)) (fault (b ++ piece)) new
          (ap (λ (w : Waiting). w.rest) h.2 ∙ sym (ap (λ (p : Parts). p.rest) whole))
          (ap (λ (w : Waiting). w.fed) h.2 ∙ sym (length-append b piece))
          (ap (λ (w : Waiting). w.fault) h.2 ∙ sym (ap (λ (p : Parts). p.fault) whole));
      all = ap (λ (p : Parts). p.messages) whole ∙ sym (append-nil (messages b)) ∙ ap (λ (l : List Content). messages b ++ l) (sym h.0);
      first = h.1 ∙ sym some ∙ sym (ap (λ (p : Parts). p.fault) whole);
    }

pub goes_on_by_feeding : (old new : Waiting) (piece : List ℕ) (ms : List Content) (o : Option WireFault) → Feeds old piece ms o new → GoesOn old piece ms o new
goes_on_by_feeding old new piece ms o feeds b e =
    on b piece ms o new (fault b) refl (subst (λ (w : Waiting). Feeds w piece ms o new) e feeds)

pub ruleset goes_on = (goes_on_by_feeding)

-- more bytes only add messages
pub messages_grow : (bytes more : List ℕ) → IsPrefix (messages bytes) (messages (bytes ++ more))
messages_grow bytes more = by_case (fault bytes) refl
  where
    by_case : (o : Option WireFault) → fault bytes ≡ o → IsPrefix (messages bytes) (messages (bytes ++ more))
    by_case None none = (_, sym (ap (λ (p : Parts). p.messages) (parts-more 0 bytes more none)))
    by_case (Some f) some = ([], append-nil (messages bytes) ∙ sym (ap (λ (p : Parts). p.messages) (parts-faulty 0 bytes more f some)))
