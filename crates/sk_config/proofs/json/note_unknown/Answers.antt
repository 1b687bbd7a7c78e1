use Rattle.std.proofs.Common.{◌∙◌, sym, rules, append-nil, string_bytes}
use Rattle.std.specs.Map.Iter.{deref_pair}
use Rattle.std.proofs.lemmas.Map.Iter.{rest_more, rest_all}
use Rattle.serde_json.specs.Data.{null}
use Rattle.serde_json.specs.View.{members_view}
use Rattle.sk_config.proofs.JsonLaws.{key_passed}
use Rattle.sk_config.proofs.json.note_unknown.Goals as goal

pub loop-key-preserved : goal.loop-key-preserved
loop-key-preserved g c =
    let rest = rest_more deref_pair _ _ _ _ c.in-Some.is c.next.ensures.steps in
    let here = rw rest at c.loop-key.invariant in
    key_passed (g.K.KnownKeys.is_known c.args.keys.now) c.args.at.now (string_bytes c.in-Some.key.now) null (members_view c.next.new.self) _ _ (search rules) here

pub returns : goal.returns
returns g c =
    let rest = rest_all deref_pair _ _ _ c.in-None.is c.next.ensures.steps in
    sym (append-nil _) ∙ (rw rest at c.loop-key.invariant)
