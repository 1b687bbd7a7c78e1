-- The numbers that the program ends with.
use Rattle.std.specs.Prelude.{ℕ}
use Rattle.sk_base.specs.declared.status.ExitStatus.{ExitStatus}
use Rattle.sk_base.specs.declared.status.ExitStatus.TheVariants as status

-- each way to end has a number of its own
abbrev pub status_number : ExitStatus → ℕ
status_number status.Done = 0
status_number status.BadFile = 1
status_number status.Usage = 2
status_number status.ReadFault = 3
status_number status.WriteFault = 4
status_number status.OutOfMemory = 5
status_number status.Aborted = 6
status_number status.NetFault = 7
status_number status.Limit = 8
status_number status.Refused = 9
status_number status.BadInput = 10
status_number status.EndedEarly = 11
status_number status.Stalled = 12
status_number status.Unlawful = 13
