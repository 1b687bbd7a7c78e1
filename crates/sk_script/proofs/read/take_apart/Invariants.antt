use Rattle.std.proofs.Common.{◌≡◌, true}
use Rattle.std.specs.List.{list_all}
use Rattle.sk_script.specs.Reading.{parts_of, uris_of}
use Rattle.sk_script.specs.Scenarios.{is_part}
use Rattle.sk_script.proofs.read.take_apart.Given as goal

abbrev pub invariant-loop-read : goal.invariant-loop-read
invariant-loop-read l = (l.parts.items ≡ parts_of l.yielded) × (l.uris.items ≡ uris_of l.yielded) × (list_all is_part l.parts.items ≡ true)
