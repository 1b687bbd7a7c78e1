-- What a role tells of its sender.
use Rattle.std.specs.Prelude.{Bool, true, false}
use Rattle.sk_msg.specs.declared.role.Role.{Role}
use Rattle.sk_msg.specs.declared.role.Role.TheVariants.{Participant, Tool}

-- starts and stops with the others
abbrev pub is_coordinated_role : Role → Bool
is_coordinated_role (Participant coordinated synchronised) = coordinated
is_coordinated_role Tool = false

-- takes steps in virtual time, and announces each
abbrev pub is_synchronised_role : Role → Bool
is_synchronised_role (Participant coordinated synchronised) = synchronised
is_synchronised_role Tool = false

-- is no participant
abbrev pub is_tool_role : Role → Bool
is_tool_role (Participant coordinated synchronised) = false
is_tool_role Tool = true
