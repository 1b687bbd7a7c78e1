-- A Session along a talk.
use Rattle.std.proofs.Common.{◌⊎◌, ◌≡◌, ◌≤◌, ◌<◌, ◌+◌, ◌-◌, ◌*◌, ◌^◌, ℕ, suc, Bool, true, false, not, ◌||◌, cond, Option, Some, None, List, [], ◌∷◌, ◌++◌, length, take, refl, sym, ◌∙◌, ap, subst, arith, inl, inr, append-nil, length-append, ltb, leb}
use Rattle.std.proofs.lemmas.Bool.Decides.{nat_tests}
use Rattle.std.specs.List.{list_any}
use Rattle.std.specs.Option.{is_some}
use mathlib.Core.List.{IsPrefix}
use Rattle.sk_base.specs.Talk.{Said, Taken, NoneTaken, Ended, taken, given, bytes_taken, bytes_given, said_by_take, said_by_give}
use Rattle.sk_base.specs.declared.link.Took.{Took}
use Rattle.sk_base.specs.declared.link.Took.TheVariants as took
use Rattle.sk_base.specs.declared.link.Gave.{Gave}
use Rattle.sk_base.specs.declared.link.Gave.TheVariants as gave
use Rattle.sk_msg.specs.declared.content.Content.{Content}
use Rattle.sk_wire.specs.declared.fault.WireFault.{WireFault}
use Rattle.sk_wire.specs.Parts.{messages}
use Rattle.sk_wire.specs.Feeding.{Waiting}
use Rattle.sk_connection.specs.Connection as connection
use Rattle.sk_connection.specs.Talks.{is_end, is_take, waiting, IsHeldBack, IsPatient}
use Rattle.sk_pipe.specs.Frames.{all_steps, frame, frames, due_after}
use Rattle.sk_pipe.specs.Hearing.{Hears, HearsPiece, KeepsPlan}
use Rattle.sk_pipe.specs.Pipe.{heard, end_of, steps_begun, pipe_out}
use Rattle.sk_pipe.specs.Run.{IsInStep, MayFollow, IsPipe, IsWhole, IsFull, Cause}
use Rattle.sk_pipe.specs.Session.{Follows, MayTake}
use Rattle.sk_pipe.specs.declared.peer.PeerEnding.{PeerEnding}
use Rattle.sk_pipe.specs.declared.peer.Peer.{Peer}
use Rattle.sk_pipe.specs.declared.session.Session.{Session}
use Rattle.sk_pipe.specs.declared.ending.PipeEnding.{PipeEnding}
use Rattle.sk_pipe.specs.declared.ending.PipeEnding.TheVariants.{Limit, Memory}
use Rattle.sk_pipe.proofs.CountLaws.{at_least_one}
use Rattle.sk_pipe.proofs.FrameLaws.{frames-prefix}
use Rattle.sk_pipe.proofs.GrowthLaws.{output-due, prefix_trans, pipe_out-monotone, heard-front, steps_begun-more, due-le}
use Rattle.sk_pipe.proofs.HearingLaws.{hears_piece}
use Rattle.sk_pipe.proofs.TalkLaws.{taken-more, given-more, is_end-more, waiting-taken, in_step_more, patient_more}

-- what `pipe_out` says of the bytes that a Peer heard
pub pipe_out-heard : (name b : List ℕ) (ending : Option PeerEnding) (peer : Peer) → Hears (heard b) ending peer
    → pipe_out name peer.step peer.duration b ≡ frames name peer.step peer.total (due_after peer.begun peer.total)
pipe_out-heard name b ending peer h =
    let small : steps_begun peer.step peer.duration (heard b) ≤ all_steps peer.step peer.duration
    = subst (λ (n : ℕ). n ≤ all_steps peer.step peer.duration) h.begun_is (subst (λ (n : ℕ). peer.begun ≤ n) peer.counted peer.within) in
    output-due name peer.step peer.duration (steps_begun peer.step peer.duration (heard b)) (at_least_one peer.step peer.step_fits) small
    ∙ ap (λ n. frames name peer.step (all_steps peer.step peer.duration) (due_after n (all_steps peer.step peer.duration))) (sym h.begun_is)
    ∙ ap (λ t. frames name peer.step t (due_after peer.begun t)) (sym peer.counted)

-- what was given is a prefix of it
given-prefix : (name b sent behind : List ℕ) (k : ℕ) (ending : Option PeerEnding) (peer : Peer) → Hears (heard b) ending peer → k ≤ due_after peer.begun peer.total
    → sent ++ behind ≡ frames name peer.step peer.total k → IsPrefix sent (pipe_out name peer.step peer.duration b)
given-prefix name b sent behind k ending peer h due given_is =
    subst (IsPrefix sent) (sym (pipe_out-heard name b ending peer h))
    (prefix_trans sent (frames name peer.step peer.total k) (frames name peer.step peer.total (due_after peer.begun peer.total))
    (behind, given_is) (frames-prefix name peer.step peer.total k (due_after peer.begun peer.total) due))

-- ## What a give and a take say

pub gives_no_take : (g : Gave) (piece : List ℕ) → is_take (said_by_give g piece) ≡ false
gives_no_take (gave.Bytes n) piece = refl
gives_no_take gave.NotYet piece = refl

gives_no_end : (g : Gave) (piece : List ℕ) → is_end (said_by_give g piece) ≡ false
gives_no_end (gave.Bytes n) piece = refl
gives_no_end gave.NotYet piece = refl

gives_take_nothing : (g : Gave) (piece : List ℕ) → bytes_taken (said_by_give g piece) ≡ []
gives_take_nothing (gave.Bytes n) piece = refl
gives_take_nothing gave.NotYet piece = refl

takes_take : (t : Took) (buffer : List ℕ) → is_take (said_by_take t buffer) ≡ true
takes_take (took.Bytes n) buffer = refl
takes_take took.NotYet buffer = refl
takes_take took.End buffer = refl

takes_give_nothing : (t : Took) (buffer : List ℕ) → bytes_given (said_by_take t buffer) ≡ []
takes_give_nothing (took.Bytes n) buffer = refl
takes_give_nothing took.NotYet buffer = refl
takes_give_nothing took.End buffer = refl

or_false : (b : Bool) → (b || false) ≡ b
or_false true = refl
or_false false = refl

-- ## After one answer more

module _ (name : List ℕ) (talk : List Said) (s : Session) (f : Follows name talk s) where
  -- the run ends without a further answer
  pub ends_here : (ended : PipeEnding) → (IsWhole ended → ⊥) → Cause ended talk → IsPipe name s.peer.step s.peer.duration (talk ++ []) ended
  ends_here ended partly cause =
      let P : List Said → Type 0 = λ l. IsPipe name s.peer.step s.peer.duration l ended in
      subst P (sym (append-nil talk)) (record { in_step = f.in_step; whole = λ w. absurd (partly w); cause = cause })

  module _ (t : Said) (all : List ℕ) (c : connection.Connection) (g : connection.Follows all (talk ++ t ∷ []) c) where
    pub patient_now : leb 1048576 c.waits ≡ false → IsPatient (talk ++ t ∷ [])
    patient_now few = patient_more talk t f.patient (let w = g.waits_is in let n : c.waits < 1048576 = grind (arith, nat_tests, few) in omega (arith, w, n))

    pub tired_now : leb 1048576 c.waits ≡ true → 1048576 ≤ waiting (talk ++ t ∷ [])
    tired_now many = (let w = g.waits_is in let n : 1048576 ≤ c.waits = grind (arith, nat_tests, many) in omega (arith, w, n))

  -- ## A give

  module _ (g : Gave) (piece : List ℕ) where
    same_taken : taken (talk ++ said_by_give g piece ∷ []) ≡ taken talk
    same_taken = taken-more talk (said_by_give g piece) ∙ ap (λ l. taken talk ++ l) (gives_take_nothing g piece) ∙ append-nil (taken talk)

    pub hears_given : Hears (heard (taken (talk ++ said_by_give g piece ∷ []))) (end_of (taken (talk ++ said_by_give g piece ∷ []))) s.peer
    hears_given = subst (λ (b : List ℕ). Hears (heard b) (end_of b) s.peer) (sym same_taken) f.hears

    pub not_full_given : list_any is_end (talk ++ said_by_give g piece ∷ []) ≡ true → length (taken (talk ++ said_by_give g piece ∷ [])) < 2 ^ 32
    not_full_given ended =
        let before : list_any is_end talk ≡ true
        = sym (is_end-more talk (said_by_give g piece) ∙ ap (λ b. list_any is_end talk || (b || false)) (gives_no_end g piece) ∙ or_false (list_any is_end talk)) ∙ ended in
        let few = f.not_full_at_end before in
        let same = ap (λ (xs : List ℕ). length xs) same_taken in
        omega (arith, few, same)

    pub in_step_given : (c : connection.Connection) → connection.Follows (frames name s.peer.step s.peer.total s.sent) (talk ++ said_by_give g piece ∷ []) c
        → (MayFollow talk → s.connection.is_held ≡ true → ⊥) → IsInStep name s.peer.step s.peer.duration (talk ++ said_by_give g piece ∷ [])
    in_step_given c now may =
        let t = said_by_give g piece in
        in_step_more name s.peer.step s.peer.duration talk t f.in_step
        (subst (λ (b : List ℕ). IsPrefix (given (talk ++ t ∷ [])) (pipe_out name s.peer.step s.peer.duration b)) (sym same_taken)
        (given-prefix name (taken talk) (given (talk ++ t ∷ [])) c.queued s.sent (end_of (taken talk)) s.peer f.hears f.due now.given_is))
        (λ takes. let no = gives_no_take g piece in absurd (let both : false ≡ true = sym no ∙ takes in cc))
        (λ front refused follow. absurd (may follow (f.connection_is.refused_is front refused)))

  -- ## A take, where one may come

  module _ (may : MayTake name talk s) (t : Took) (buffer : List ℕ) where
    same_given : given (talk ++ said_by_take t buffer ∷ []) ≡ given talk
    same_given = given-more talk (said_by_take t buffer) ∙ ap (λ l. given talk ++ l) (takes_give_nothing t buffer) ∙ append-nil (given talk)

    pub in_step_taken : IsPrefix (messages (taken talk)) (messages (taken (talk ++ said_by_take t buffer ∷ []))) → IsInStep name s.peer.step s.peer.duration (talk ++ said_by_take t buffer ∷ [])
    in_step_taken grows =
        let said = said_by_take t buffer in
        in_step_more name s.peer.step s.peer.duration talk said f.in_step
        (subst (λ (l : List ℕ). IsPrefix l (pipe_out name s.peer.step s.peer.duration (taken (talk ++ said ∷ [])))) (sym same_given)
        (prefix_trans (given talk) (pipe_out name s.peer.step s.peer.duration (taken talk)) (pipe_out name s.peer.step s.peer.duration (taken (talk ++ said ∷ [])))
        (given-prefix name (taken talk) (given talk) s.connection.queued s.sent (end_of (taken talk)) s.peer f.hears f.due f.connection_is.given_is)
        (pipe_out-monotone name s.peer.step s.peer.duration (taken talk) (taken (talk ++ said ∷ [])) (at_least_one s.peer.step s.peer.step_fits) grows)))
        (λ _. may)
        (λ _ _ _. takes_take t buffer)

    pub not_full_taken : list_any is_end (talk ++ said_by_take t buffer ∷ []) ≡ true → length (taken (talk ++ said_by_take t buffer ∷ [])) < 2 ^ 32
    not_full_taken = by_case t
      where
        no_end : (said : Said) → is_end said ≡ false → list_any is_end (talk ++ said ∷ []) ≡ true → ⊥
        no_end said goes ended =
            let none : list_any is_end (talk ++ said ∷ []) ≡ false
            = is_end-more talk said ∙ ap (λ b. list_any is_end talk || (b || false)) goes ∙ or_false (list_any is_end talk) ∙ may.1.no_end in
            (let both : false ≡ true = sym none ∙ ended in cc)

        by_case : (t : Took) → list_any is_end (talk ++ said_by_take t buffer ∷ []) ≡ true → length (taken (talk ++ said_by_take t buffer ∷ [])) < 2 ^ 32
        by_case (took.Bytes n) ended = absurd (no_end (Taken (take n buffer)) refl ended)
        by_case took.NotYet ended = absurd (no_end NoneTaken refl ended)
        by_case took.End ended =
            let same = ap (λ (xs : List ℕ). length xs) (taken-more talk Ended ∙ append-nil (taken talk)) in
            let few = may.1.not_full in
            omega (arith, same, few)

    -- the bytes were lost for want of memory
    pub ends_lost : connection.IsLost t buffer → IsPipe name s.peer.step s.peer.duration (talk ++ said_by_take t buffer ∷ []) Memory
    ends_lost lost =
        let all_taken : taken (talk ++ said_by_take t buffer ∷ []) ≡ taken talk ++ lost.piece = taken-more talk (said_by_take t buffer) ∙ ap (λ (x : Said). taken talk ++ bytes_taken x) lost.said in
        record {
          in_step = in_step_taken (subst (λ (b : List ℕ). IsPrefix (messages (taken talk)) (messages b)) (sym all_taken) (lost.grows (taken talk)));
          whole = λ w. absurd w;
          cause = subst (λ (x : Said). IsPatient (talk ++ x ∷ [])) (sym lost.said) (patient_more talk (Taken lost.piece) f.patient (waits_none lost.piece));
        }
      where
        waits_none : (piece : List ℕ) → waiting (talk ++ Taken piece ∷ []) < 1048576
        waits_none piece = (let none = waiting-taken talk piece in omega (arith, none))

    -- what the Peer heard then
    module _ (found : List Content) (broken : Option WireFault) (c : connection.Connection) (peer : Peer) (plan : KeepsPlan s.peer peer)
        (now : connection.FollowsSaid (frames name s.peer.step s.peer.total s.sent) talk (said_by_take t buffer) found broken c)
        (open_still : s.peer.ending ≡ None) (says : (before : List Content) → Hears before None s.peer → HearsPiece before found (is_some broken) peer) where
      pub hears_taken : Hears (heard (taken (talk ++ said_by_take t buffer ∷ []))) (end_of (taken (talk ++ said_by_take t buffer ∷ []))) peer
      hears_taken = hears_piece (taken talk) (taken (talk ++ said_by_take t buffer ∷ [])) found broken s.peer peer f.hears open_still now.messages_are now.fault_is says

      grows : IsPrefix (messages (taken talk)) (messages (taken (talk ++ said_by_take t buffer ∷ [])))
      grows = (found, sym now.messages_are)

      pub in_step_after : IsInStep name peer.step peer.duration (talk ++ said_by_take t buffer ∷ [])
      in_step_after = rw (plan.step, plan.duration) (in_step_taken grows)

      pub connection_after : connection.Follows (frames name peer.step peer.total s.sent) (talk ++ said_by_take t buffer ∷ []) c
      connection_after = rw (plan.step, plan.total) now.follows

      pub due_after_take : s.sent ≤ due_after peer.begun peer.total
      due_after_take =
          let old = s.peer in
          let front = heard-front (taken talk) (taken (talk ++ said_by_take t buffer ∷ [])) grows in
          let more : steps_begun old.step old.duration (heard (taken talk)) ≤ steps_begun old.step old.duration (heard (taken (talk ++ said_by_take t buffer ∷ [])))
          = subst (λ (l : List Content). steps_begun old.step old.duration (heard (taken talk)) ≤ steps_begun old.step old.duration l) front.1 (steps_begun-more old.step old.duration (heard (taken talk)) front.0) in
          let after : peer.begun ≡ steps_begun old.step old.duration (heard (taken (talk ++ said_by_take t buffer ∷ [])))
          = hears_taken.begun_is ∙ ap (λ n. steps_begun n peer.duration (heard (taken (talk ++ said_by_take t buffer ∷ [])))) plan.step
          ∙ ap (λ n. steps_begun old.step n (heard (taken (talk ++ said_by_take t buffer ∷ [])))) plan.duration in
          let before = f.hears.begun_is in
          let grown : old.begun ≤ peer.begun = omega (arith, more, after, before) in
          let wide : due_after old.begun old.total ≤ due_after peer.begun peer.total
          = subst (λ (n : ℕ). due_after old.begun n ≤ due_after peer.begun peer.total) plan.total (due-le old.begun peer.begun peer.total grown peer.within) in
          let due = f.due in
          omega (arith, wide, due)

-- ## What is due

-- what is due was given whole
no_output : (b n m : ℕ) → not (ltb 0 b || ltb n m) ≡ true → (b ≡ 0) × (m ≤ n)
no_output b n m h = (grind (arith, nat_tests), grind (arith, nat_tests))

nothing_queued : (xs : List ℕ) → length xs ≡ 0 → xs ≡ []
nothing_queued [] e = refl
nothing_queued (x ∷ xs) e = absurd (omega (arith, e))

pub given_whole : (name : List ℕ) (talk : List Said) (s : Session) → Follows name talk s
    → not (ltb 0 (length s.connection.queued) || ltb s.sent (due_after s.peer.begun s.peer.total)) ≡ true → given talk ≡ pipe_out name s.peer.step s.peer.duration (taken talk)
given_whole name talk s f h =
    let none = no_output (length s.connection.queued) s.sent (due_after s.peer.begun s.peer.total) h in
    let all : s.sent ≡ due_after s.peer.begun s.peer.total = (let due = f.due in let sent = none.1 in omega (arith, due, sent)) in
    sym (append-nil (given talk)) ∙ ap (λ l. given talk ++ l) (sym (nothing_queued s.connection.queued none.0)) ∙ f.connection_is.given_is
    ∙ ap (frames name s.peer.step s.peer.total) all ∙ sym (pipe_out-heard name (taken talk) (end_of (taken talk)) s.peer f.hears)

-- no end was heard, none was taken, and fewer than 2^32 bytes
pub is_open : (ending : Option PeerEnding) (ended : Bool) (n : ℕ) → not (is_some ending || ended || leb (2 ^ 32) n) ≡ true → (ending ≡ None) × (ended ≡ false) × (n < 2 ^ 32)
is_open None false n h = (refl, refl, grind (arith, nat_tests))
is_open None true n h = absurd cc
is_open (Some x) ended n h = absurd cc

pub may_take : (name : List ℕ) (talk : List Said) (s : Session) → Follows name talk s
    → (s.connection.is_held || not (ltb 0 (length s.connection.queued) || ltb s.sent (due_after s.peer.begun s.peer.total))) ≡ true
    → not (is_some s.peer.ending || s.connection.is_ended || leb (2 ^ 32) s.connection.decoder.fed) ≡ true → MayTake name talk s
may_take name talk s f h free =
    let o = is_open s.peer.ending s.connection.is_ended s.connection.decoder.fed free in
    let fed = ap (λ (w : Waiting). w.fed) f.connection_is.decoder_is in (
      by_case s.connection.is_held refl h,
      record {
        open_still = sym f.hears.ending_is ∙ o.0;
        no_end = sym f.connection_is.ended_is ∙ o.1;
        not_full = (let few = o.2 in omega (arith, fed, few));
      },
    )
  where
    by_case : (b : Bool) → s.connection.is_held ≡ b → (b || not (ltb 0 (length s.connection.queued) || ltb s.sent (due_after s.peer.begun s.peer.total))) ≡ true
        → (given talk ≡ pipe_out name s.peer.step s.peer.duration (taken talk)) ⊎ IsHeldBack talk
    by_case true e k = inr (f.connection_is.held_is e)
    by_case false e k = inl (given_whole name talk s f k)

-- the peer is still there and the input goes on, so it was 2^32 bytes
pub is_full : (name : List ℕ) (talk : List Said) (s : Session) → Follows name talk s → s.peer.ending ≡ None → s.connection.is_ended ≡ false
    → (is_some s.peer.ending || s.connection.is_ended || leb (2 ^ 32) s.connection.decoder.fed) ≡ true → IsFull talk
is_full name talk s f none goes closed =
    let full : leb (2 ^ 32) s.connection.decoder.fed ≡ true = rw (none, goes) at closed in
    let fed = ap (λ (w : Waiting). w.fed) f.connection_is.decoder_is in
    (sym f.hears.ending_is ∙ none, grind (arith, nat_tests, fed, full))

-- a give comes only where no take may follow, or no give was refused since the last take
pub may_give : (name : List ℕ) (talk : List Said) (s : Session) → Follows name talk s
    → ((is_some s.peer.ending || s.connection.is_ended || leb (2 ^ 32) s.connection.decoder.fed) || not s.connection.is_held) ≡ true
    → MayFollow talk → s.connection.is_held ≡ true → ⊥
may_give name talk s f h may held =
    let none : s.peer.ending ≡ None = f.hears.ending_is ∙ may.open_still in
    let goes : s.connection.is_ended ≡ false = f.connection_is.ended_is ∙ may.no_end in
    let fed = ap (λ (w : Waiting). w.fed) f.connection_is.decoder_is in
    let few : leb (2 ^ 32) s.connection.decoder.fed ≡ false = (let l = may.not_full in grind (arith, nat_tests, fed, l)) in
    (let e : false ≡ true = rw (none, goes, few, held) at h in cc)

-- a message is queued, of at most 8,196 bytes
pub left_queued : (old new : connection.Connection) (message : List ℕ) → new ≡ connection.with_queued message old → length message ≤ 8196
    → connection.left new ≤ connection.left old + 8196 * 1048577
left_queued old new message e most = rw e (let l = length-append old.queued message in omega (arith, l, most))

-- one more message is queued
pub next_frame : (name message : List ℕ) (step total sent : ℕ) → 1 ≤ sent → message ≡ frame name step total (suc (sent - 1))
    → frames name step total sent ++ message ≡ frames name step total (sent + 1)
next_frame name message step total sent begun is =
    let here : suc (sent - 1) ≡ sent = omega (arith, begun) in
    ap (λ l. frames name step total sent ++ l) (is ∙ ap (frame name step total) here)
    ∙ ap (frames name step total) (let e : suc sent ≡ sent + 1 = omega arith in e)

pub due_more : (n total : ℕ) → 1 ≤ due_after n total
due_more n total = by_case (ltb n total)
  where
    by_case : (b : Bool) → 1 ≤ cond b (suc (suc n)) (suc (suc (suc n)))
    by_case true = omega arith
    by_case false = omega arith

pub due-most : (n total : ℕ) → n ≤ total → due_after n total ≤ total + 3
due-most n total within = grind (arith, nat_tests, within)
