-- Words for what a value may be one of.
use Rattle.std.specs.Prelude.{ℕ, List, codes}
use Rattle.sk_msg.specs.declared.bus.LinChecksum.{LinChecksum}
use Rattle.sk_msg.specs.declared.bus.LinChecksum.TheVariants as checksums
use Rattle.sk_msg.specs.declared.bus.LinMode.{LinMode}
use Rattle.sk_msg.specs.declared.bus.LinMode.TheVariants as modes
use Rattle.sk_msg.specs.declared.bus.LinRole.{LinRole}
use Rattle.sk_msg.specs.declared.bus.LinRole.TheVariants as roles
use Rattle.sk_msg.specs.declared.label.LabelKind.{LabelKind}
use Rattle.sk_msg.specs.declared.label.LabelKind.TheVariants as labels
use Rattle.sk_msg.specs.declared.service.ServiceKind.{ServiceKind}
use Rattle.sk_msg.specs.declared.service.ServiceKind.TheVariants as kinds

abbrev pub role_word : LinRole → List ℕ
role_word roles.Master = codes "master"
role_word roles.Slave = codes "slave"

abbrev pub mode_word : LinMode → List ℕ
mode_word modes.Unused = codes "unused"
mode_word modes.Rx = codes "rx"
mode_word modes.TxUnconditional = codes "tx"

-- unknown is the default
abbrev pub checksum_word : LinChecksum → List ℕ
checksum_word checksums.Unknown = codes ""
checksum_word checksums.Classic = codes "classic"
checksum_word checksums.Enhanced = codes "enhanced"

abbrev pub kind_word : ServiceKind → List ℕ
kind_word kinds.Can = codes "can"
kind_word kinds.Ethernet = codes "ethernet"
kind_word kinds.Lin = codes "lin"
kind_word kinds.Publisher = codes "publisher"
kind_word kinds.Subscriber = codes "subscriber"
kind_word kinds.Server = codes "server"
kind_word kinds.Client = codes "client"

abbrev pub label_word : LabelKind → List ℕ
label_word labels.Optional = codes "optional"
label_word labels.Mandatory = codes "mandatory"
