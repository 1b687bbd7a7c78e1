use Rattle.std.proofs.Common.{sym, ◌∙◌}
use Rattle.sk_system.proofs.ControllerLaws.{no_second, passed_over}
use Rattle.sk_system.proofs.LineLaws.{system_lines-same}
use Rattle.sk_system.proofs.controller.Controller.note.Goals as goal

pub returns-in_default : goal.returns-in_default
returns-in_default c =
    let is = c.content.ensures.value in
    let over = passed_over c.args.self.now c.args.name.now c.args.message.now (rw is at c.in_default.not-Leave) (rw is at c.in_default.not-Status) in
    record {
      kept = sym over;
      lines = rw over (c.at_rest.ensures.lines ∙ sym (system_lines-same c.args.self.now.printed));
      abort = rw over (c.at_rest.ensures.abort ∙ sym (no_second c.args.self.now.aborted));
      ended = c.at_rest.ensures.ended;
      same = tt;
    }
