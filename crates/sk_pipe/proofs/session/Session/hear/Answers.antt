use Rattle.std.proofs.Common.{List, Bool, None, sym, subst, inr}
use Rattle.std.specs.Option.{is_some}
use Rattle.sk_base.specs.Talk.{said_by_take}
use Rattle.sk_msg.specs.declared.content.Content.{Content}
use Rattle.sk_pipe.specs.Frames.{frames}
use Rattle.sk_pipe.specs.Hearing.{Hears, HearsPiece}
use Rattle.sk_pipe.proofs.SessionLaws.{is_open, ends_lost, hears_taken, in_step_after, connection_after, due_after_take, not_full_taken, patient_now, tired_now}
use Rattle.sk_pipe.proofs.session.Session.hear.Goals as goal

pub returns-in-Err-clause-talk : goal.returns-in-Err-clause-talk
returns-in-Err-clause-talk c = λ name talk f may. ends_lost name talk c.args.self.now f may c.args.took c.args.buf.now c.in-Err.ensures.lost

pub returns-then-is_tired-clause-talk : goal.returns-then-is_tired-clause-talk
returns-then-is_tired-clause-talk c = λ name talk f may.
    let s = c.args.self.now in
    let buf = c.args.buf.now in
    let t = said_by_take c.args.took buf in
    let peer = c.hear_piece.new.self in
    let plan = c.hear_piece.ensures.plan in
    let all = frames name s.peer.step s.peer.total s.sent in
    let now = c.in-Ok.ensures.follows all talk f.connection_is in
    let found = c.in-Ok.fed.messages.items in
    let broken = c.in-Ok.fed.fault in
    let open_still = (is_open s.peer.ending s.connection.is_ended s.connection.decoder.fed c.requires.open).0 in
    let says : (before : List Content) → Hears before None s.peer → HearsPiece before found (is_some broken) peer
    = λ before h. subst (λ (ms : List Content). HearsPiece before ms (is_some broken) peer) c.deref.ensures.value
    (subst (λ (b : Bool). HearsPiece before c.deref.result.now b peer) c.is_some.ensures (c.hear_piece.ensures.hears before h)) in
    record {
      in_step = in_step_after name talk s f may c.args.took buf found broken c.took.new.self peer plan now open_still says;
      whole = λ w. absurd w;
      cause = inr (tired_now name talk s f t all c.took.new.self now.follows (sym c.if-is_tired.ensures));
    }

pub returns-clause-talk : goal.returns-clause-talk
returns-clause-talk c = λ name talk f may.
    let s = c.args.self.now in
    let buf = c.args.buf.now in
    let t = said_by_take c.args.took buf in
    let peer = c.hear_piece.new.self in
    let plan = c.hear_piece.ensures.plan in
    let all = frames name s.peer.step s.peer.total s.sent in
    let now = c.in-Ok.ensures.follows all talk f.connection_is in
    let found = c.in-Ok.fed.messages.items in
    let broken = c.in-Ok.fed.fault in
    let open_still = (is_open s.peer.ending s.connection.is_ended s.connection.decoder.fed c.requires.open).0 in
    let says : (before : List Content) → Hears before None s.peer → HearsPiece before found (is_some broken) peer
    = λ before h. subst (λ (ms : List Content). HearsPiece before ms (is_some broken) peer) c.deref.ensures.value
    (subst (λ (b : Bool). HearsPiece before c.deref.result.now b peer) c.is_some.ensures (c.hear_piece.ensures.hears before h)) in
    let heard_now = hears_taken name talk s f may c.args.took buf found broken c.took.new.self peer plan now open_still says in
    record {
      connection_is = connection_after name talk s f may c.args.took buf found broken c.took.new.self peer plan now open_still says;
      hears = record { ending_is = heard_now.ending_is; begun_is = heard_now.begun_is; sync_is = heard_now.sync_is };
      due = due_after_take name talk s f may c.args.took buf found broken c.took.new.self peer plan now open_still says;
      not_full_at_end = not_full_taken name talk s f may c.args.took buf;
      in_step = in_step_after name talk s f may c.args.took buf found broken c.took.new.self peer plan now open_still says;
      patient = patient_now name talk s f t all c.took.new.self now.follows (sym c.if-is_tired.ensures);
    }
