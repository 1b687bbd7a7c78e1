-- The values of a row, and the message that they make.
use Rattle.std.specs.Prelude.{ℕ, false, List}
use Rattle.sk_msg.specs.declared.content.Content.{Content}
use Rattle.sk_msg.specs.declared.content.Content.TheVariants.{ServiceAdd, Can, Lin, LinResponse}
use Rattle.sk_msg.specs.declared.head.Head.{Head}
use Rattle.sk_msg.specs.declared.label.Label.{Label}
use Rattle.sk_msg.specs.declared.service.Service.{Service}
use Rattle.sk_msg.specs.declared.service.ServiceKind.{ServiceKind}
use Rattle.sk_msg.specs.declared.bus.CanFrame.{CanFrame}
use Rattle.sk_msg.specs.declared.bus.LinFrame.{LinFrame}
use Rattle.sk_msg.specs.declared.bus.LinResponse as responses
use Rattle.sk_msg.specs.declared.bus.LinChecksum.{LinChecksum}
use Rattle.sk_msg.specs.declared.bus.LinStatus.{LinStatus}
use Rattle.sk_msg.specs.declared.bus.LinMode.{LinMode}
use Rattle.sk_wire.specs.Kinds.{Flags, flags}

abbrev pub ServiceParts : Type 0
ServiceParts = ℕ × (ServiceKind × (List ℕ × (List ℕ × (List ℕ × List Label))))

abbrev pub service_parts : Service → ServiceParts
service_parts s = (s.id, (s.kind, (s.name, (s.spec.topic, (s.spec.media, s.spec.labels)))))

-- it has no history
abbrev pub service_of : ServiceParts → Content
service_of x = ServiceAdd (record {
  id = x.0;
  kind = x.1.0;
  name = x.1.1.0;
  spec = record { topic = x.1.1.1.0; media = x.1.1.1.1.0; labels = x.1.1.1.1.1 };
  history = false;
})

abbrev pub CanParts : Type 0
CanParts = Head × (ℕ × (Flags × List ℕ))

abbrev pub can_parts : Head → CanFrame → CanParts
can_parts head f = (head, (f.id, (flags f.extended f.fd, f.payload)))

abbrev pub can_of : CanParts → Content
can_of x = Can x.0 (record { id = x.1.0; extended = x.1.1.0.0; fd = x.1.1.0.1; payload = x.1.1.1 })

abbrev pub LinParts : Type 0
LinParts = Head × (ℕ × (LinChecksum × (LinStatus × List ℕ)))

abbrev pub lin_parts : Head → LinFrame → LinParts
lin_parts head f = (head, (f.id, (f.checksum, (f.status, f.payload))))

abbrev pub lin_of : LinParts → Content
lin_of x = Lin x.0 (record { id = x.1.0; checksum = x.1.1.0; status = x.1.1.1.0; payload = x.1.1.1.1 })

abbrev pub ResponseParts : Type 0
ResponseParts = Head × (ℕ × (LinMode × (LinChecksum × List ℕ)))

abbrev pub response_parts : Head → responses.LinResponse → ResponseParts
response_parts head r = (head, (r.id, (r.mode, (r.checksum, r.payload))))

abbrev pub response_of : ResponseParts → Content
response_of x = LinResponse x.0 (record { id = x.1.0; mode = x.1.1.0; checksum = x.1.1.1.0; payload = x.1.1.1.1 })
