use Rattle.std.proofs.Common.{◌∙◌, ap, length}
use Rattle.std.specs.Option.{unwrap_or}
use Rattle.sk_script.proofs.PlacingLaws.{place_is}
use Rattle.sk_script.proofs.ordering.place_of.Goals as goal

pub returns-clause-place : goal.returns-clause-place
returns-clause-place c =
    c.unwrap_or.ensures ∙ ap (λ first. unwrap_or first (length c.args.ordered.now)) c.first_behind.ensures ∙ place_is c.args.part.now c.args.ordered.now
