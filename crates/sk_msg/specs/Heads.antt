-- What goes from service to service.
use Rattle.std.specs.Prelude.{Option, Some, None}
use Rattle.sk_msg.specs.declared.content.Content.{Content}
use Rattle.sk_msg.specs.declared.content.Content.TheVariants.{Hello, Leave, NextStep, ServiceAdd, ServicesEnd, Status, Workflow, Abort, Can, Eth, Lin, LinResponse, Publish, Call, Reply, Refuse}
use Rattle.sk_msg.specs.declared.head.Head.{Head}

-- the head of what goes from service to service; no other message has one
abbrev pub head_of : Content → Option Head
head_of (Hello name role address) = None
head_of Leave = None
head_of (NextStep at duration) = None
head_of (ServiceAdd service) = None
head_of ServicesEnd = None
head_of (Status state until) = None
head_of (Workflow required) = None
head_of Abort = None
head_of (Can head frame) = Some head
head_of (Eth head bytes) = Some head
head_of (Lin head frame) = Some head
head_of (LinResponse head response) = Some head
head_of (Publish head bytes) = Some head
head_of (Call head call bytes) = Some head
head_of (Reply head client call bytes) = Some head
head_of (Refuse reason) = None
