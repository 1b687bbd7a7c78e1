use Rattle.std.proofs.Common.{◌++◌, ◌∷◌, [], sym, ◌∙◌, ap, append-nil, inr}
use Rattle.sk_base.specs.Talk.{said_by_give}
use Rattle.sk_pipe.specs.Frames.{frames}
use Rattle.sk_pipe.specs.declared.ending.PipeEnding.TheVariants.{LinkFault}
use Rattle.sk_pipe.proofs.SessionLaws.{ends_here, hears_given, not_full_given, in_step_given, patient_now, tired_now, may_give}
use Rattle.sk_pipe.proofs.session.Session.give_rest.Goals as goal

pub returns-in-Err-clause-talk : goal.returns-in-Err-clause-talk
returns-in-Err-clause-talk g c = λ told name talk f.
    ([], c.in-Err.ensures.talk told ∙ sym (append-nil _), ends_here name talk c.args.self.now f LinkFault (λ w. w) f.patient)

pub returns-then-is_tired-clause-talk : goal.returns-then-is_tired-clause-talk
returns-then-is_tired-clause-talk g c = λ told name talk f.
    let s = c.args.self.now in
    let queued = s.connection.queued in
    let t = said_by_give c.in-Ok.gave queued in
    let all = frames name s.peer.step s.peer.total s.sent in
    let now = c.gave.ensures.follows all talk f.connection_is in (
      t ∷ [],
      c.in-Ok.ensures.talk told ∙ ap (λ piece. g.L.Link.talk c.args.link.now ++ said_by_give c.in-Ok.gave piece ∷ []) c.next_piece.ensures,
      record {
        in_step = in_step_given name talk s f c.in-Ok.gave queued c.gave.new.self now (may_give name talk s f c.requires.goes);
        whole = λ w. absurd w;
        cause = inr (tired_now name talk s f t all c.gave.new.self now (sym c.if-is_tired.ensures));
      },
    )

pub returns-else-is_tired-clause-talk : goal.returns-else-is_tired-clause-talk
returns-else-is_tired-clause-talk g c = λ told name talk f.
    let s = c.args.self.now in
    let queued = s.connection.queued in
    let t = said_by_give c.in-Ok.gave queued in
    let all = frames name s.peer.step s.peer.total s.sent in
    let now = c.gave.ensures.follows all talk f.connection_is in (
      t ∷ [],
      c.in-Ok.ensures.talk told ∙ ap (λ piece. g.L.Link.talk c.args.link.now ++ said_by_give c.in-Ok.gave piece ∷ []) c.next_piece.ensures,
      record {
        connection_is = now;
        hears = hears_given name talk s f c.in-Ok.gave queued;
        due = f.due;
        not_full_at_end = not_full_given name talk s f c.in-Ok.gave queued;
        in_step = in_step_given name talk s f c.in-Ok.gave queued c.gave.new.self now (may_give name talk s f c.requires.goes);
        patient = patient_now name talk s f t all c.gave.new.self now (sym c.if-is_tired.ensures);
      },
    )
