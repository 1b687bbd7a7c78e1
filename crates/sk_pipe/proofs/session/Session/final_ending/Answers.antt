use Rattle.std.proofs.Common.{Some, sym, ◌∙◌, ap, inl}
use Rattle.sk_pipe.proofs.SessionLaws.{given_whole, is_full}
use Rattle.sk_pipe.proofs.session.Session.final_ending.Goals as goal

pub returns-in-Left-clause-talk : goal.returns-in-Left-clause-talk
returns-in-Left-clause-talk c = λ name talk f. record {
  in_step = f.in_step;
  whole = λ _. given_whole name talk c.args.self.now f c.requires.given;
  cause = (sym f.hears.ending_is ∙ c.in-Some.is ∙ ap Some c.in-Left.is, f.patient);
}

pub returns-in-Broken-clause-talk : goal.returns-in-Broken-clause-talk
returns-in-Broken-clause-talk c = λ name talk f. record {
  in_step = f.in_step;
  whole = λ _. given_whole name talk c.args.self.now f c.requires.given;
  cause = (sym f.hears.ending_is ∙ c.in-Some.is ∙ ap Some c.in-Broken.is, f.patient);
}

pub returns-then-is_ended-clause-talk : goal.returns-then-is_ended-clause-talk
returns-then-is_ended-clause-talk c = λ name talk f.
    let ended = sym f.connection_is.ended_is ∙ sym c.if-is_ended.ensures in
    record {
      in_step = f.in_step;
      whole = λ _. given_whole name talk c.args.self.now f c.requires.given;
      cause = ((sym f.hears.ending_is ∙ c.in-None.is, ended), f.not_full_at_end ended, f.patient);
    }

pub returns-else-is_ended-clause-talk : goal.returns-else-is_ended-clause-talk
returns-else-is_ended-clause-talk c = λ name talk f. record {
  in_step = f.in_step;
  whole = λ w. absurd w;
  cause = inl (is_full name talk c.args.self.now f c.in-None.is (sym c.if-is_ended.ensures) c.requires.closed);
}
