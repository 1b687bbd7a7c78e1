-- Rules by their services: how a machine looks them up.
use Rattle.std.specs.Prelude.{ℕ, List, [], map, slice_index_or, if◌then◌else◌}
use Rattle.std.specs.List.{filter, range_with_len}
use Rattle.sk_law.specs.Script.{Delivery}
use Rattle.sk_msg.specs.declared.service.ServiceKind.{ServiceKind}
use Rattle.sk_rules.specs.Scripts.{RuleValue}
use Rattle.sk_machine.specs.Causes.{is_of, is_taken, cause_of}
use Rattle.sk_machine.specs.Playing.{Played, follow_all}

-- the rules of this service, in order
abbrev pub rules_of : List RuleValue → ℕ → List RuleValue
rules_of rules service = filter (λ rule. is_of service rule.when) rules

-- those of each of so many services
abbrev pub by_service : ℕ → List RuleValue → List (List RuleValue)
by_service count rules = map (rules_of rules) (range_with_len 0 count)

-- as `hear`, with the rules of each service looked up
abbrev pub hear_by : List ServiceKind → List (List RuleValue) → Played → Delivery → Played
hear_by kinds on played item =
    if is_taken kinds item then follow_all (cause_of item) (slice_index_or on item.service []) played else played
