-- What a callback asks for.
use Rattle.std.specs.Prelude.{Bool, not, ◌&&◌, ◌||◌, ◌==◌, nat_le, List, length}
use Rattle.sk_msg.specs.declared.action.Action.{Action}

-- the actions in order, and whether one more was tried
pub record Outbox : Type 0 where
  pub actions : List Action
  pub over : Bool

-- at most 256 actions, and exactly so many where one more was tried
unfoldable pub are_filled : List Action → Bool → Bool
are_filled actions over = nat_le (length actions) 256 && (not over || length actions == 256)
