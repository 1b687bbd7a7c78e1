-- What a tool takes from a message, or from the end of a link.
use Rattle.std.specs.Prelude.{ℕ, List}
use Rattle.sk_msg.specs.declared.content.Content.{Content}
use Rattle.sk_msg.specs.declared.content.Content.TheVariants.{Leave, Status, Workflow}
use Rattle.sk_msg.specs.declared.state.State.{State}

pub data Notice : Type 0 where
  -- a participant tells its state
  Tells : State → Notice
  -- nothing follows from it
  Leaves : Notice
  -- its link ended before that
  LosesLink : Notice
  -- whom the simulation needs
  Requires : List (List ℕ) → Notice
  -- nothing that a tool looks at
  Nothing : Notice

abbrev pub notice_of : Content → Notice
notice_of (Status state until) = Tells state
notice_of Leave = Leaves
notice_of (Workflow required) = Requires required
notice_of content = Nothing
