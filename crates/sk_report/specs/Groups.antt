-- Messages by a number.
use Rattle.std.specs.Prelude.{ℕ, ◌==◌, nat_eq, List, [], ◌∷◌, ◌++◌, map, Option, Some, None, unwrap_or, option_map, if◌then◌else◌}
use Rattle.std.specs.Borrow.{Bor}
use Rattle.std.specs.HashMap.{get}
use Rattle.sk_msg.specs.declared.content.Content.{Content}
use Rattle.sk_msg.specs.declared.entry.Entry.{Entry}
use Rattle.sk_msg.specs.declared.entry.Entry.TheVariants.{Did}
use Rattle.sk_report.specs.declared.groups.MessageGroups.{MessageGroups}

-- the messages of these references
abbrev pub messages_of : List (Bor Content) → List Content
messages_of messages = map (λ message. message.now) messages

-- the messages under this number
abbrev pub messages_at : MessageGroups → ℕ → List Content
messages_at groups number = unwrap_or (option_map (λ group. messages_of group.items) (get nat_eq groups.messages number)) []

-- one message more under this number
abbrev pub with_message : ℕ → Content → (ℕ → List Content) → ℕ → List Content
with_message key m groups number = if key == number then groups number ++ m ∷ [] else groups number

-- the message that was sent by an entry
abbrev pub message_sent : Entry → Option Content
message_sent (Did service code sent) = sent
message_sent _ = None
