use Rattle.std.proofs.Common.{◌≡◌, None, drop}
use Rattle.serde_json.specs.View.{view}
use Rattle.sk_rules.specs.Verbs as spec
use Rattle.sk_rules.proofs.verb.only_of.Given as goal

abbrev pub invariant-loop-verb : goal.invariant-loop-verb
invariant-loop-verb l = spec.only_of l.seen (drop l.verb-index l.verbs) (view l.object) ≡ spec.only_of None l.verbs (view l.object)
