use Rattle.std.proofs.Common.{◌≡◌, List, true, sym, subst}
use Rattle.std.specs.List.{list_all}
use Rattle.sk_rules.specs.Scripts.{RuleValue}
use Rattle.sk_rules.specs.declared.action.ScriptAction.{ScriptAction}
use Rattle.sk_rules.specs.declared.place.Place.TheVariants as places
use Rattle.sk_machine.specs.Sound.{leaves_room, is_sound}
use Rattle.sk_machine.proofs.Soundness.{actions_fit, rules_fit}
use Rattle.sk_machine.proofs.machine.Machine.new.Goals as goal

pub make-requires-clause-room : goal.make-requires-clause-room
make-requires-clause-room c =
    subst (λ (l : List ScriptAction). list_all leaves_room l ≡ true) (sym c.in_ok-when_ready.ensures)
    (actions_fit c.args.scope.now places.Ready c.args.when_ready.now c.requires.actions)

pub make-requires-clause-sound : goal.make-requires-clause-sound
make-requires-clause-sound c =
    subst (λ (l : List RuleValue). list_all is_sound l ≡ true) (sym c.in_ok-rules.ensures)
    (rules_fit c.args.scope.now c.args.rules.now c.requires.rules)
