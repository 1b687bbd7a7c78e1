-- What a message that came in order is for.
use Rattle.std.specs.Prelude.{ℕ}
use Rattle.sk_msg.specs.declared.content.Content.{Content}
use Rattle.sk_msg.specs.declared.content.Content.TheVariants as contents
use Rattle.sk_law.specs.declared.setup.Setup.{Setup}
use Rattle.sk_law.specs.Past.{Past}
use Rattle.sk_law.specs.Receivers.{note}
use Rattle.sk_node.specs.declared.receive.Purpose.{Purpose}
use Rattle.sk_node.specs.declared.receive.Purpose.TheVariants.{System, Abort, Noted, Handed}

-- by its kind
abbrev pub purpose_of : Content → Purpose
purpose_of (contents.Status state until) = System
purpose_of (contents.Workflow required) = System
purpose_of contents.Abort = Abort
purpose_of (contents.LinResponse head response) = Noted
purpose_of m = Handed

-- a response is noted, and nothing else
abbrev pub noted_of : Setup → ℕ → Content → Past → Past
noted_of S p (contents.LinResponse head response) past = note S p head.service response past
noted_of S p m past = past
