use Rattle.std.proofs.Common.{◌≡◌, drop}
use Rattle.serde_json.specs.View.{members_view}
use Rattle.sk_config.specs.Written.{put_lists}
use Rattle.sk_config.proofs.write.put_lists.Given as goal

abbrev pub invariant-loop-kind : goal.invariant-loop-kind
invariant-loop-kind l =
    put_lists l.config (drop l.kind-index l.kinds) (members_view l.members.entries) ≡ put_lists l.config l.kinds (members_view l.fn.members.entries)
