-- Which scripts can be played. Those of a participant's file can.
use Rattle.std.specs.Prelude.{ℕ, nat_lt, Bool, true, ◌&&◌, List, Option, Some, None}
use Rattle.std.specs.List.{list_all}
use Rattle.sk_rules.specs.Scripts.{RuleValue, appends_to, is_short_payload}
use Rattle.sk_rules.specs.declared.action.ScriptAction.{ScriptAction}
use Rattle.sk_rules.specs.declared.action.ScriptAction.TheVariants.{Fixed, Append, Reply, Set, Add, Take}
use Rattle.sk_rules.specs.declared.rule.When.{When}
use Rattle.sk_rules.specs.declared.rule.When.TheVariants.{At, Every, On}

-- where a variable is to be appended there is room for it
abbrev pub has_room : List ℕ → Option ℕ → Bool
has_room payload None = true
has_room payload (Some variable) = is_short_payload payload

abbrev pub leaves_room : ScriptAction → Bool
leaves_room (Fixed action) = true
leaves_room (Append action variable) = appends_to action
leaves_room (Reply service payload append) = has_room payload append
leaves_room (Set variable value) = true
leaves_room (Add variable value) = true
leaves_room (Take variable) = true

-- what comes again and again comes after some time
abbrev pub has_size : When → Bool
has_size (At at) = true
has_size (Every size from) = nat_lt 0 size
has_size (On service) = true

abbrev pub is_sound : RuleValue → Bool
is_sound rule = has_size rule.when && list_all leaves_room rule.actions
