use Rattle.sk_wire.proofs.KindFaultLaws.{one_fault}
use Rattle.sk_wire.proofs.laws.one_body_fault.Goals as goal

pub returns : goal.returns
returns c = one_fault
