use Rattle.std.proofs.Common.{◌≡◌, ◌++◌}
use Rattle.serde_json.specs.View.{members_view}
use Rattle.sk_config.specs.Json.{unknown_in}
use Rattle.sk_config.proofs.json.note_unknown.Given as goal

abbrev pub invariant-loop-key : goal.invariant-loop-key
invariant-loop-key g l =
    l.unknown.items ++ unknown_in (g.K.KnownKeys.is_known l.keys) l.at (members_view l.key-iterator)
    ≡ l.fn.unknown.items ++ unknown_in (g.K.KnownKeys.is_known l.keys) l.at (members_view l.members.entries)
