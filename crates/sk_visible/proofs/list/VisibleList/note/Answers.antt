use Rattle.std.proofs.Common.{◌≡◌, ◌∙◌, List, ap, sym, subst}
use Rattle.std.specs.Prelude.{OnOk}
use Rattle.std.specs.List.{filter_map}
use Rattle.sk_law.specs.Visible.{shown, sort}
use Rattle.sk_law.specs.declared.made.Heard.TheVariants as hearings
use Rattle.sk_law.specs.declared.visible.Visible.{Visible}
use Rattle.sk_visible.proofs.Hearing.{nothing_more, one_more}
use Rattle.sk_visible.proofs.list.VisibleList.note.Goals as goal

pub returns-in-None-clause-ok : goal.returns-in-None-clause-ok
returns-in-None-clause-ok c = λ heard is.
    is ∙ ap sort (sym (nothing_more heard (hearings.Message c.args.peer c.args.place c.args.service c.args.message.now) (sym c.in_ok-shown.ensures ∙ c.in-None.is)))

pub returns-in-Some-clause-ok : goal.returns-in-Some-clause-ok
returns-in-Some-clause-ok c = λ heard is.
    subst (λ (items : List Visible). OnOk c.add.result (c.add.new.self ≡ sort items))
    (sym (one_more heard (hearings.Message c.args.peer c.args.place c.args.service c.args.message.now) c.in-Some.item (sym c.in_ok-shown.ensures ∙ c.in-Some.is)))
    (c.add.ensures.sorted (filter_map shown heard) is)
