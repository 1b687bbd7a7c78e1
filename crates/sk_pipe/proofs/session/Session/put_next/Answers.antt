use Rattle.std.proofs.Common.{List, ℕ, subst, arith}
use Rattle.sk_wire.specs.Grammar.{spelling}
use Rattle.sk_connection.specs.Connection as connection
use Rattle.sk_pipe.specs.Frames.{frames}
use Rattle.sk_pipe.proofs.SessionLaws.{next_frame, left_queued, due-most}
use Rattle.sk_pipe.proofs.session.Session.put_next.Goals as goal

pub returns-clause-follows : goal.returns-clause-follows
returns-clause-follows c = λ name talk f.
    let s = c.args.self.now in
    let queued = c.in_ok-queue.ensures.follows (frames name s.peer.step s.peer.total s.sent) talk f.connection_is in
    record {
      connection_is = subst (λ (all : List ℕ). connection.Follows all talk c.queue.new.self)
          (next_frame name (spelling c.message-message.result) s.peer.step s.peer.total s.sent s.begun (c.message-message.ensures name)) queued;
      hears = f.hears;
      due = omega (arith, c.requires);
      not_full_at_end = f.not_full_at_end;
      in_step = f.in_step;
      patient = f.patient;
    }

pub returns-clause-smaller : goal.returns-clause-smaller
returns-clause-smaller c =
    let s = c.args.self.now in
    let room = left_queued s.connection c.queue.new.self (spelling c.message-message.result) c.in_ok-queue.ensures.ok c.in_ok-queue.ensures.size.1 in
    let few = c.requires in
    let due = due-most s.peer.begun s.peer.total s.peer.within in
    omega (arith, room, few, due)
