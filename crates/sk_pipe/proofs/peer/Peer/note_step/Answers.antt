use Rattle.std.proofs.Common.{◌+◌, ◌/◌, ℕ, Option, None, Some, min, refl, ap, subst, ◌∙◌, arith}
use Rattle.sk_msg.specs.declared.content.Content.TheVariants.{NextStep}
use Rattle.sk_pipe.specs.Hearing.{IsSyncAfter}
use Rattle.sk_pipe.specs.declared.peer.PeerSync.TheVariants.{Synchronised}
use Rattle.sk_pipe.proofs.CountLaws.{at_least_one}
use Rattle.sk_pipe.proofs.HearingLaws.{heard_bad, next-bad, hears_first, hears_next}
use Rattle.sk_pipe.proofs.peer.Peer.note_step.Goals as goal

pub returns-in-None-clause-hears : goal.returns-in-None-clause-hears
returns-in-None-clause-hears c = λ before duration h.
    let old = c.args.self.now in
    let e = c.announce.ensures in
    let time = c.ns-time.ensures.value in
    let sync_is : IsSyncAfter before (Synchronised None) = subst (λ (o : Option ℕ). IsSyncAfter before (Synchronised o)) c.in-None.is (subst (IsSyncAfter before) c.in-Synchronised.is (h.sync_is refl)) in
    hears_first old c.announce.new.self before c.args.at duration (at_least_one old.step old.step_fits) sync_is h.ending_is e.plan
    (e.sync ∙ ap (λ (n : ℕ). Synchronised (Some n)) time) e.ending (e.begun ∙ ap (λ (n : ℕ). min old.total (n / old.step + 1)) time)

pub returns-then-earlier-time-clause-hears : goal.returns-then-earlier-time-clause-hears
returns-then-earlier-time-clause-hears c = λ before duration h.
    let old = c.args.self.now in
    let e = c.announce-then-earlier-time.ensures in
    let time = c.ns-time.ensures.value in
    let last = c.in-Some.earlier in
    let sync_is : IsSyncAfter before (Synchronised (Some last)) = subst (λ (o : Option ℕ). IsSyncAfter before (Synchronised o)) c.in-Some.is (subst (IsSyncAfter before) c.in-Synchronised.is (h.sync_is refl)) in
    hears_next old c.announce-then-earlier-time.new.self before last c.args.at duration (at_least_one old.step old.step_fits)
    (let rises = c.if-earlier-time.true in omega (arith, rises, time)) sync_is h.ending_is e.plan
    (e.sync ∙ ap (λ (n : ℕ). Synchronised (Some n)) time) e.ending (e.begun ∙ ap (λ (n : ℕ). min old.total (n / old.step + 1)) time)

pub returns-else-earlier-time-clause-hears : goal.returns-else-earlier-time-clause-hears
returns-else-earlier-time-clause-hears c = λ before duration h.
    let time = c.ns-time.ensures.value in
    let last = c.in-Some.earlier in
    let sync_is : IsSyncAfter before (Synchronised (Some last)) = subst (λ (o : Option ℕ). IsSyncAfter before (Synchronised o)) c.in-Some.is (subst (IsSyncAfter before) c.in-Synchronised.is (h.sync_is refl)) in
    heard_bad before (NextStep c.args.at duration) refl _
    (next-bad before last c.args.at duration (let falls = c.if-earlier-time.false in omega (arith, falls, time)) sync_is.0 sync_is.1) refl h.begun_is
