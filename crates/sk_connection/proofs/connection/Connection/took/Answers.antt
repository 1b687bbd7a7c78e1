use Rattle.std.proofs.Common.{take, ap}
use Rattle.sk_base.specs.Talk.{said_by_take}
use Rattle.sk_base.specs.declared.link.Took.{Took}
use Rattle.sk_connection.proofs.connection.Connection.took.Goals as goal

pub returns-in-Err-clause-lost : goal.returns-in-Err-clause-lost
returns-in-Err-clause-lost c = record {
  piece = take c.in-Bytes.count c.args.buf.now;
  said = ap (λ (t : Took). said_by_take t c.args.buf.now) c.in-Bytes.is;
  grows = c.hear.ensures.grows;
}
