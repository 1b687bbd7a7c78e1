use Rattle.std.proofs.Common.{◌≡◌, option_map, arith, ◌∙◌}
use Rattle.std.proofs.lemmas.Grind.{common_steps}
use Rattle.serde_json.proofs.Views.{view-Object}
use Rattle.serde_json.specs.Data.{string, no_members}
use Rattle.serde_json.specs.View.{members_view}
use Rattle.sk_config.specs.Keys.{participant_name_key, middleware_key}
use Rattle.sk_config.specs.Written.{put_some, middleware_data}
use Rattle.sk_config.proofs.WriteLaws.{puts, whole_config}
use Rattle.sk_config.proofs.write.config_value.Goals as goal
use Rattle.sk_config.proofs.write.config_value.Goals.{in-Some+in_ok-put_text, in_default, in-Some-registry_uri+in_ok-middleware_value+in_ok-put_member, in_default-registry_uri}

pub returns-clause-value : goal.returns-clause-value
unfolding put_some
returns-clause-value c =
    let config = c.args.config.now in
    let named : members_view c.match-participant_name.members.entries ≡ put_some participant_name_key (option_map string config.participant_name) no_members = grind (arith, common_steps, puts) in
    let whole : members_view c.match-registry_uri.members.entries ≡ put_some middleware_key (option_map middleware_data config.registry_uri) (members_view c.put_lists.new.members.entries) = grind (arith, common_steps, puts) in
    view-Object _ ∙ whole_config config _ _ _ named c.in_ok-put_lists.ensures whole
