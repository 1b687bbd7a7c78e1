use Rattle.std.proofs.Common.{◌∙◌, ap, sym, subst, slice_index_or, inl, inr}
use Rattle.sk_lin.specs.Answers.{Answer}
use Rattle.sk_lin.specs.Kept.{own}
use Rattle.sk_lin.specs.Lin.{responders}
use Rattle.sk_lin.proofs.SendLaws.{sent_nobody, sent_one, sent_several}
use Rattle.sk_lin.proofs.frames.keep_and_send.Goals as goal

pub returns-in-Nobody : goal.returns-in-Nobody
returns-in-Nobody c =
    let now = c.of.ensures ∙ ap (responders c.args.response.id) c.in_ok-keep.ensures.kept in
    record {
      frame = c.in_ok-alone.ensures ∙ sym (elim c.in-Nobody.is [
        | inl is ↦ sent_nobody c.args.response c.args.kept.now c.of.result.now c.requires now
            (subst (Answer c.args.response.id c.of.result.now) is c.who_answers.ensures)
        | inr at ↦ sent_one c.args.response c.args.kept.now c.of.result.now (slice_index_or c.of.result.now at.0 (own c.args.response)) c.requires now
            ((subst (Answer c.args.response.id c.of.result.now) at.1 c.who_answers.ensures).1 (own c.args.response))
      ]);
      kept = c.in_ok-keep.ensures.kept;
      same = tt;
    }

pub returns-in-Several : goal.returns-in-Several
returns-in-Several c =
    let now = c.of.ensures ∙ ap (responders c.args.response.id) c.in_ok-keep.ensures.kept in
    let several = subst (Answer c.args.response.id c.of.result.now) c.in-Several.is c.who_answers.ensures in
    record {
      frame = c.in_ok-disturbed.ensures ∙ sym (sent_several c.args.response c.args.kept.now c.of.result.now several.0 several.1 several.2 now several.3);
      kept = c.in_ok-keep.ensures.kept;
      same = tt;
    }
