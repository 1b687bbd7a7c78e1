use Rattle.std.proofs.Common.{◌≡◌, []}
use Rattle.serde_json.specs.View.{members_view}
use Rattle.sk_rules.specs.Vars.{vars_in}
use Rattle.sk_rules.proofs.vars.read_members.Given as goal

abbrev pub invariant-loop-key : goal.invariant-loop-key
invariant-loop-key l = vars_in l.at l.vars.items (members_view l.key-iterator) ≡ vars_in l.at [] (members_view l.members.entries)
