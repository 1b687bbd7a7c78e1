use Rattle.std.proofs.Common.{◌≡◌, map, drop}
use Rattle.serde_json.specs.View.{members_view}
use Rattle.sk_script_text.specs.Objects.{put_all}
use Rattle.sk_script_text.specs.Services.{var_field}
use Rattle.sk_script_text.proofs.write_service.put_each.Given as goal

abbrev pub invariant-loop-var : goal.invariant-loop-var
invariant-loop-var l =
    put_all (map var_field (drop l.var-index l.vars)) (members_view l.object.members.entries) ≡ put_all (map var_field l.vars) (members_view l.fn.object.members.entries)
