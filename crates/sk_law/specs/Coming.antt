-- What a message that comes is judged by, where only the record of what was said is kept.
use Rattle.std.specs.Prelude.{ℕ, min, Bool, false, not, ◌&&◌, List, Option, Some, None}
use Rattle.sk_msg.specs.declared.content.Content.{Content}
use Rattle.sk_msg.specs.declared.content.Content.TheVariants.{NextStep}
use Rattle.sk_msg.specs.declared.state.State.{State}
use Rattle.sk_law.specs.declared.said.Said.{Said}
use Rattle.sk_law.specs.Order.{may_say}
use Rattle.sk_law.specs.Links.{is_early}

-- NextStep of a coordinated peer
abbrev pub runs : Said → Content → Bool
runs s (NextStep at duration) = s.coordinated
runs s _ = false

-- a coordinated participant in this state waits where its name is required
abbrev pub waits : Bool → State → Bool → Bool
waits coordinated state required = coordinated && (is_early state && required)

-- the one of this name, a tool or a peer, may say this now, after what it said
abbrev pub comes : Bool → Bool → List ℕ → Said → Content → Bool
comes awaited tool name s m = may_say tool name s m && not (awaited && runs s m)

-- the lower one of a limit and of a bound, where there is one
abbrev pub lower : Option ℕ → ℕ → ℕ
lower None limit = limit
lower (Some until) limit = min limit until
