-- What kinds of messages and commands are called in texts.
use Rattle.std.specs.Prelude.{ℕ, List, codes}
use Rattle.sk_msg.specs.declared.command.Command.{Command}
use Rattle.sk_msg.specs.declared.command.Command.TheVariants.{Pause, Continue, Stop, ReportError, Abort as AbortAll}
use Rattle.sk_msg.specs.declared.content.Content.{Content}
use Rattle.sk_msg.specs.declared.content.Content.TheVariants.{Hello, Leave, NextStep, ServiceAdd, ServicesEnd, Status, Workflow, Abort, Can, Eth, Lin, LinResponse, Publish, Call, Reply, Refuse}

-- the name of a message's kind
unfoldable pub kind_name : Content → List ℕ
kind_name (Hello name role address) = codes "Hello"
kind_name Leave = codes "Leave"
kind_name (NextStep at duration) = codes "NextStep"
kind_name (ServiceAdd service) = codes "ServiceAdd"
kind_name ServicesEnd = codes "ServicesEnd"
kind_name (Status state until) = codes "Status"
kind_name (Workflow required) = codes "Workflow"
kind_name Abort = codes "Abort"
kind_name (Can head frame) = codes "Can"
kind_name (Eth head payload) = codes "Eth"
kind_name (Lin head frame) = codes "Lin"
kind_name (LinResponse head response) = codes "LinResponse"
kind_name (Publish head payload) = codes "Publish"
kind_name (Call head call payload) = codes "Call"
kind_name (Reply head client call payload) = codes "Reply"
kind_name (Refuse reason) = codes "Refuse"

-- the name of a command
unfoldable pub command_name : Command → List ℕ
command_name Pause = codes "Pause"
command_name Continue = codes "Continue"
command_name Stop = codes "Stop"
command_name ReportError = codes "ReportError"
command_name AbortAll = codes "Abort"
