use Rattle.std.proofs.Common.{◌∙◌, [], ap, slice_index_or, arith}
use Rattle.sk_lin.specs.Lin.{responders}
use Rattle.sk_lin.proofs.TableLaws.{responders_at}
use Rattle.sk_lin.proofs.table.ResponseTable.of.Goals as goal

pub returns : goal.returns
returns c =
    rw (← c.self.view_is)
    (ap (responders c.args.id) (c.responses_at.ensures ∙ ap (λ lists. slice_index_or lists c.args.id []) c.deref.ensures.value)
    ∙ responders_at 0 c.args.id c.args.id c.self.inside.by_id.items c.self.invariant (omega arith))
