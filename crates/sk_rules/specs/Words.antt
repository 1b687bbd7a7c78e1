-- Words that a value has to be one of.
use Rattle.std.specs.Prelude.{ℕ, List, Option, Some, None, codes, if◌then◌else◌}
use Rattle.std.specs.Str.{bytes_eq}
use Rattle.sk_msg.specs.declared.bus.LinChecksum.{LinChecksum}
use Rattle.sk_msg.specs.declared.bus.LinChecksum.TheVariants as checksums
use Rattle.sk_msg.specs.declared.bus.LinMode.{LinMode}
use Rattle.sk_msg.specs.declared.bus.LinMode.TheVariants as modes
use Rattle.sk_msg.specs.declared.bus.LinRole.{LinRole}
use Rattle.sk_msg.specs.declared.bus.LinRole.TheVariants as roles
use Rattle.sk_msg.specs.declared.label.LabelKind.{LabelKind}
use Rattle.sk_msg.specs.declared.label.LabelKind.TheVariants as labels
use Rattle.sk_msg.specs.declared.service.ServiceKind.{ServiceKind}
use Rattle.sk_msg.specs.declared.service.ServiceKind.TheVariants as kinds

-- what a LIN controller is on its bus
unfoldable pub role_of : List ℕ → Option LinRole
role_of word =
    if bytes_eq word (codes "master") then Some roles.Master
    else if bytes_eq word (codes "slave") then Some roles.Slave
    else None

-- what a LIN controller does at a header
unfoldable pub lin_mode_of : List ℕ → Option LinMode
lin_mode_of word =
    if bytes_eq word (codes "unused") then Some modes.Unused
    else if bytes_eq word (codes "rx") then Some modes.Rx
    else if bytes_eq word (codes "tx") then Some modes.TxUnconditional
    else None

-- how a LIN checksum is made
unfoldable pub checksum_of : List ℕ → Option LinChecksum
checksum_of word =
    if bytes_eq word (codes "unknown") then Some checksums.Unknown
    else if bytes_eq word (codes "classic") then Some checksums.Classic
    else if bytes_eq word (codes "enhanced") then Some checksums.Enhanced
    else None

-- what a service is
unfoldable pub service_kind_of : List ℕ → Option ServiceKind
service_kind_of word =
    if bytes_eq word (codes "can") then Some kinds.Can
    else if bytes_eq word (codes "ethernet") then Some kinds.Ethernet
    else if bytes_eq word (codes "lin") then Some kinds.Lin
    else if bytes_eq word (codes "publisher") then Some kinds.Publisher
    else if bytes_eq word (codes "subscriber") then Some kinds.Subscriber
    else if bytes_eq word (codes "server") then Some kinds.Server
    else if bytes_eq word (codes "client") then Some kinds.Client
    else None

-- whether the other side needs a label
unfoldable pub label_kind_of : List ℕ → Option LabelKind
label_kind_of word =
    if bytes_eq word (codes "optional") then Some labels.Optional
    else if bytes_eq word (codes "mandatory") then Some labels.Mandatory
    else None
