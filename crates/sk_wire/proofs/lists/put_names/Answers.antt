use Rattle.std.proofs.Common.{take}
use Rattle.std.specs.List.{flat_map}
use Rattle.std.proofs.lemmas.Result.{err_from_is_err_and}
use Rattle.sk_wire.specs.Kinds.{name}
use Rattle.sk_wire.proofs.PutLaws.{kept_through}
use Rattle.sk_wire.proofs.lists.put_names.Goals as goal

pub returns-in_err-put_name : goal.returns-in_err-put_name
returns-in_err-put_name c =
    let p = err_from_is_err_and c.from_residual.result c.from_residual.ensures.1 in
    rw p.1 (kept_through c.args.to.now.items c.loop-name.to.items c.put_name.new.to.items (flat_map name.spelling (take c.loop-name.name-index c.args.names.now)) c.loop-name.invariant c.in_err-put_name.ensures)
