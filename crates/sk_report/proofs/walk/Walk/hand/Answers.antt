use Rattle.std.proofs.Common.{◌∙◌, ap, sym, refl, option_copied}
use Rattle.sk_law.specs.Told.{heard}
use Rattle.sk_report.proofs.Walking.{found_at, walked_hand, walked_nothing}
use Rattle.sk_report.proofs.walk.Walk.hand.Goals as goal

pub returns-in_ok-note-in-Some : goal.returns-in_ok-note-in-Some
returns-in_ok-note-in-Some c = λ before h.
    walked_hand before c.args.peer c.args.place c.args.service c.in-Some.message.now c.args.self.now c.note.new.self h
    (found_at before c.args.peer c.args.place c.args.peer c.saturating_sub-index.result c.args.self.now _ h refl c.saturating_sub-index.ensures
    (ap option_copied (sym c.in-Some.is) ∙ c.get.ensures))
    (c.in_ok-note-in-Some.ensures.ok (heard before) h.list)

pub returns-in-None : goal.returns-in-None
returns-in-None c = λ before h.
    walked_nothing before c.args.peer c.args.place c.args.service c.args.self.now h
    (found_at before c.args.peer c.args.place c.args.peer c.saturating_sub-index.result c.args.self.now _ h refl c.saturating_sub-index.ensures
    (ap option_copied (sym c.in-None.is) ∙ c.get.ensures))
