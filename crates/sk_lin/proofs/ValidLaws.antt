-- What is kept and what is sent keeps the rules.
use Rattle.std.proofs.Common.{◌≡◌, ℕ, Bool, true, false, cond, List, [], ◌∷◌, length, refl, sym, subst}
use Rattle.std.specs.List.{AllByRecursion}
use Rattle.std.specs.Prelude.{IsTrue, filter, nat_le, ◌==◌, ◌||◌, ◌&&◌}
use Rattle.std.proofs.lemmas.Bool.{and_parts, and_from}
use Rattle.sk_msg.specs.Rules.{is_lin_id, is_lin_payload, is_sent, is_unknown}
use Rattle.sk_msg.specs.declared.bus.LinChecksum.{LinChecksum}
use Rattle.sk_msg.specs.declared.bus.LinFrame.{LinFrame}
use Rattle.sk_msg.specs.declared.bus.LinResponse.{LinResponse}
use Rattle.sk_lin.specs.declared.kept.Kept.{Kept}
use Rattle.sk_lin.specs.declared.kept.Source.{Source}
use Rattle.sk_lin.specs.Kept.{keep}
use Rattle.sk_lin.specs.Lin.{AreResponses, is_lin_frame, answered, frame_of, is_lin_response, responders, responds_to, sleep_frame, wakeup_frame}
use Rattle.sk_lin.proofs.TableLaws.{keep_all}

pub valid_kept : (source : Source) (response : LinResponse) (kept : List Kept) → IsTrue (is_lin_response response) → AreResponses kept
    → AreResponses (keep (record { source = source; response = response }) kept)
valid_kept source response kept is all = keep_all (λ one. IsTrue (is_lin_response one.response)) (record { source = source; response = response }) kept is all

pub valid_id : (response : LinResponse) → IsTrue (is_lin_response response) → IsTrue (is_lin_id response.id)
unfolding is_lin_response
valid_id response is = (and_parts _ _ is).0

among : (p : Kept → Bool) (kept : List Kept) → AreResponses kept → AreResponses (filter p kept)
among p [] all = tt
among p (one ∷ kept) all = split (p one) (among p kept all.1)
  where
    split : (b : Bool) → AreResponses (filter p kept) → AreResponses (cond b (one ∷ filter p kept) (filter p kept))
    split true rest = (all.0, rest)
    split false rest = rest

short : (carries : Bool) (checksum : LinChecksum) (bytes : List ℕ) → IsTrue (is_lin_payload carries checksum bytes) → IsTrue (is_lin_payload true checksum bytes)
unfolding is_lin_payload
short carries checksum bytes is = on (nat_le (length bytes) 8) (carries || (is_unknown checksum && length bytes == 0)) is
  where
    on : (fits rest : Bool) → (fits && rest) ≡ true → (fits && true) ≡ true
    on true rest is = refl
    on false rest is = is

valid_answer : (id : ℕ) (response : LinResponse) → IsTrue (is_lin_id id) → IsTrue (is_lin_response response) → IsTrue (is_lin_frame (answered id response))
unfolding is_lin_response is_lin_frame
valid_answer id response valid is =
    and_from _ _ valid
    (short (is_sent response.mode) response.checksum response.payload (and_parts (is_lin_id response.id) (is_lin_payload (is_sent response.mode) response.checksum response.payload) is).1)

valid_frame : (id : ℕ) (kept : List Kept) → IsTrue (is_lin_id id) → AreResponses kept → IsTrue (is_lin_frame (frame_of id kept))
unfolding is_lin_frame is_lin_payload
valid_frame id [] valid all = and_from _ _ valid refl
valid_frame id (one ∷ []) valid all = valid_answer id one.response valid all.0
valid_frame id (one ∷ other ∷ more) valid all = and_from _ _ valid refl

-- what a header brings is a frame that a message may have
pub valid_header : (frame : LinFrame) (id : ℕ) (kept : List Kept) → frame ≡ frame_of id (responders id kept) → IsTrue (is_lin_id id) → AreResponses kept → IsTrue (is_lin_frame frame)
valid_header frame id kept is valid all = subst (λ f. IsTrue (is_lin_frame f)) (sym is) (valid_frame id (responders id kept) valid (among (responds_to id) kept all))

pub valid_sleep : (frame : LinFrame) → frame ≡ sleep_frame → IsTrue (is_lin_frame frame)
unfolding is_lin_frame is_lin_id is_lin_payload
valid_sleep frame is = rw is refl

pub valid_wakeup : (frame : LinFrame) → frame ≡ wakeup_frame → IsTrue (is_lin_frame frame)
unfolding is_lin_frame is_lin_id is_lin_payload
valid_wakeup frame is = rw is refl
