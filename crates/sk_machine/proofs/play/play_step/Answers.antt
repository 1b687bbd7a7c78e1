use Rattle.std.proofs.Common.{◌≡◌, ◌∙◌, ℕ, List, [], length, true, ap, sym, subst}
use Rattle.std.specs.Prelude.{map}
use Rattle.std.specs.List.{fold, list_all}
use Rattle.sk_law.specs.Script.{delivered}
use Rattle.sk_rules.specs.Scripts.{RuleValue}
use Rattle.sk_machine.specs.declared.cause.Cause.TheVariants as causes
use Rattle.sk_machine.specs.Index.{hear_by}
use Rattle.sk_machine.specs.Machines.{played}
use Rattle.sk_machine.specs.Playing.{Played, follow_all}
use Rattle.sk_machine.specs.Sound.{is_sound}
use Rattle.sk_machine.proofs.Indexing.{hear_all_same, all_sound}
use Rattle.sk_machine.proofs.play.play_step.Goals as goal

pub hear_all-requires : goal.hear_all-requires
hear_all-requires c = record {
  sound = subst (λ (on : List (List RuleValue)). list_all (λ own. list_all is_sound own) on ≡ true) (sym c.requires.looked_up)
      (all_sound c.args.rules.now (length c.args.kinds.now) c.requires.sound);
}

pub returns : goal.returns
returns c =
    let first : Played = record { values = c.args.values.now; actions = [] } in
    let items = map delivered c.args.seen.now in
    c.in_ok-follow_all.ensures
    ∙ ap (λ (t : ℕ). follow_all (causes.Time t) c.args.rules.now (played c.hear_all.new.self)) c.ns.ensures.value
    ∙ ap (follow_all (causes.Time c.args.at) c.args.rules.now)
    (c.in_ok-hear_all.ensures
    ∙ ap (λ (p : Played). fold (hear_by c.args.kinds.now c.args.on.now) p items) c.in_ok-play.ensures
    ∙ ap (λ (on : List (List RuleValue)). fold (hear_by c.args.kinds.now on) first items) c.requires.looked_up
    ∙ hear_all_same c.args.kinds.now c.args.rules.now items first)
