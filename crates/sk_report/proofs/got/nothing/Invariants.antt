use Rattle.std.proofs.Common.{◌≡◌, true, length, map}
use Rattle.std.specs.Prelude.{◌==◌}
use Rattle.std.specs.List.{list_all}
use Rattle.sk_report.specs.Groups.{messages_of}
use Rattle.sk_report.proofs.got.nothing.Given as goal

abbrev pub invariant-loop : goal.invariant-loop
invariant-loop l = list_all (λ group. length group == 0) (map (λ group. messages_of group.items) l.first.items) ≡ true
