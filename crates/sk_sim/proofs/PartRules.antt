-- What a participant's script may say, by what the type of participants keeps.
use Rattle.std.specs.Prelude.{◌≡◌, ℕ, nat_le, Bool, true, ◌&&◌, List, length}
use Rattle.std.specs.List.{list_all}
use Rattle.std.proofs.lemmas.Bool.{and_parts}
use Rattle.sk_base.specs.Ranges.{is_name}
use Rattle.sk_config.specs.Configs.{is_none_or}
use Rattle.sk_msg.specs.Rules.{is_step_size}
use Rattle.sk_rules.specs.Scripts.{is_action, is_rule}
use Rattle.sk_rules.specs.Vars.{are_vars}
use Rattle.sk_rules.specs.declared.place.Place.TheVariants.{Ready}
use Rattle.sk_script.specs.Scenarios.{PartValue, scope_of, is_script, is_part}
use Rattle.sk_script.specs.Services.{are_services}

module _ (part : PartValue) where
  abbrev said : Bool
  said = list_all (is_action (scope_of part) Ready) part.ready

  abbrev ruled : Bool
  ruled = nat_le (length part.script) 256 && list_all (is_rule (scope_of part)) part.script

  both : is_part part ≡ true → (said && ruled) ≡ true
  unfolding is_part is_script
  both e =
      let a = and_parts (is_name part.name) (is_none_or is_step_size part.step && (are_services part.services && (are_vars part.vars && (said && ruled)))) e in
      let b = and_parts (is_none_or is_step_size part.step) (are_services part.services && (are_vars part.vars && (said && ruled))) a.1 in
      let c = and_parts (are_services part.services) (are_vars part.vars && (said && ruled)) b.1 in
      (and_parts (are_vars part.vars) (said && ruled) c.1).1

  -- what it does when it is ready
  pub ready_fits : is_part part ≡ true → list_all (is_action (scope_of part) Ready) part.ready ≡ true
  ready_fits e = (and_parts said ruled (both e)).0

  -- its rules
  pub rules_fit : is_part part ≡ true → list_all (is_rule (scope_of part)) part.script ≡ true
  rules_fit e = (and_parts (nat_le (length part.script) 256) (list_all (is_rule (scope_of part)) part.script) (and_parts said ruled (both e)).1).1
