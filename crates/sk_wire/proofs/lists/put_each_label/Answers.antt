use Rattle.std.proofs.Common.{take, []}
use Rattle.std.specs.List.{flat_map}
use Rattle.std.proofs.lemmas.Result.{err_from_is_err_and}
use Rattle.sk_wire.specs.Kinds.{new_label}
use Rattle.sk_wire.proofs.PutLaws.{kept_through}
use Rattle.sk_wire.proofs.lists.put_each_label.Goals as goal

pub returns-in_err-put_label : goal.returns-in_err-put_label
returns-in_err-put_label c =
    let p = err_from_is_err_and c.from_residual.result c.from_residual.ensures.1 in
    rw p.1 (kept_through c.args.to.now.items c.loop-label.to.items c.put_label.new.to.items (flat_map (new_label []).spelling (take c.loop-label.label-index c.args.labels.now)) c.loop-label.invariant c.in_err-put_label.ensures)
