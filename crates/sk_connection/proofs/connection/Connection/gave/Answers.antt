use Rattle.std.proofs.Common.{sym}
use Rattle.sk_connection.proofs.FollowLaws.{gave_bytes_is, gives}
use Rattle.sk_connection.proofs.connection.Connection.gave.Goals as goal

pub returns-in-Bytes-clause-value : goal.returns-in-Bytes-clause-value
returns-in-Bytes-clause-value c =
    let i = c.self.inside in
    gave_bytes_is c.args.gave c.in-Bytes.count i.given i.pending.items i.decoder i.waits i.is_held i.is_ended c.args.self.now c.in-Bytes.is (sym c.self.view_is)

pub returns-in-Bytes-clause-follows : goal.returns-in-Bytes-clause-follows
returns-in-Bytes-clause-follows c =
    let i = c.self.inside in
    gives c.args.gave c.args.self.now _
    (gave_bytes_is c.args.gave c.in-Bytes.count i.given i.pending.items i.decoder i.waits i.is_held i.is_ended c.args.self.now c.in-Bytes.is (sym c.self.view_is))
