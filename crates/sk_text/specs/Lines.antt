-- The lines of journals, with their newlines. Numbers are decimal without leading zeros.
use Rattle.std.specs.Prelude.{ℕ, ◌+◌, List, [], ◌∷◌, ◌++◌, length, codes, decimal, Option, Some, None}
use Rattle.std.specs.List.{flat_map}
use Rattle.hex.specs.Hex.{encode_lower}
use Rattle.sk_msg.specs.declared.command.Command.{Command}
use Rattle.sk_msg.specs.declared.command.Verdict.{Verdict}
use Rattle.sk_msg.specs.declared.command.Verdict.TheVariants.{Accepted, Refused}
use Rattle.sk_msg.specs.declared.content.Content.{Content}
use Rattle.sk_msg.specs.declared.entry.Entry.{Entry}
use Rattle.sk_msg.specs.declared.entry.Entry.TheVariants.{Got, Put, Hand, State as Entered, System, Begin, Done, End, Ask, Gone, Stray, Did, Fault}
use Rattle.sk_msg.specs.StateNames.{state_name}
use Rattle.sk_wire.specs.Grammar.{spelling}
use Rattle.sk_text.specs.Words.{kind_name, command_name}

-- words with a space between each two, and a newline
abbrev pub line : List (List ℕ) → List ℕ
line [] = codes "\n"
line (word ∷ []) = word ++ codes "\n"
line (word ∷ next ∷ words) = word ++ (codes " " ++ line (next ∷ words))

-- a message's one spelling on the wire, in lower-case hexadecimal
unfoldable pub message_hex : Content → List ℕ
message_hex m = encode_lower (spelling m)

-- the message that was sent, or `-` where there is none
unfoldable pub sent_hex : Option Content → List ℕ
sent_hex (Some m) = message_hex m
sent_hex None = codes "-"

-- what was asked, and the answer
unfoldable pub ask_line : Command → Verdict → List ℕ
ask_line command Accepted = line (codes "ask" ∷ command_name command ∷ codes "accepted" ∷ [])
ask_line command (Refused state) = line (codes "ask" ∷ command_name command ∷ codes "refused" ∷ state_name state ∷ [])

-- the line of an entry
unfoldable pub entry_line : Entry → List ℕ
entry_line (Got peer m) = line (codes "got" ∷ decimal peer ∷ kind_name m ∷ message_hex m ∷ [])
entry_line (Put peer m) = line (codes "put" ∷ decimal peer ∷ kind_name m ∷ message_hex m ∷ [])
entry_line (Hand peer place service) = line (codes "hand" ∷ decimal peer ∷ decimal place ∷ decimal service ∷ [])
entry_line (Entered state) = line (codes "state" ∷ state_name state ∷ [])
entry_line (System state) = line (codes "system" ∷ state_name state ∷ [])
entry_line (Begin step at) = line (codes "begin" ∷ decimal step ∷ decimal at ∷ [])
entry_line (Done step) = line (codes "done" ∷ decimal step ∷ [])
entry_line (End step) = line (codes "end" ∷ decimal step ∷ [])
entry_line (Ask command verdict) = ask_line command verdict
entry_line (Gone peer reason) = line (codes "gone" ∷ decimal peer ∷ decimal reason ∷ [])
entry_line (Stray number) = line (codes "stray" ∷ decimal number ∷ [])
entry_line (Did service code sent) = line (codes "did" ∷ decimal service ∷ decimal code ∷ sent_hex sent ∷ [])
entry_line (Fault limit) = line (codes "fault" ∷ decimal limit ∷ [])

-- so many participants follow
unfoldable pub world_line : ℕ → List ℕ
world_line count = line (codes "world" ∷ decimal count ∷ [])

-- the participant of this number has this name
unfoldable pub participant_line : ℕ → List ℕ → List ℕ
participant_line number name = line (codes "participant" ∷ decimal number ∷ name ∷ [])

-- participants of these names, numbered from this number on
abbrev pub participant_lines : ℕ → List (List ℕ) → List ℕ
participant_lines first [] = []
participant_lines first (name ∷ names) = participant_line first name ++ participant_lines (first + 1) names

-- how many participants there are, and their names
abbrev pub head_lines : List (List ℕ) → List ℕ
head_lines names = world_line (length names) ++ participant_lines 0 names

-- so many entries of the participant of this number follow
unfoldable pub journal_head : ℕ → ℕ → List ℕ
journal_head number count = line (codes "journal" ∷ decimal number ∷ decimal count ∷ [])

-- the journal of the participant of this number
abbrev pub journal_lines : ℕ → List Entry → List ℕ
journal_lines number entries = journal_head number (length entries) ++ flat_map entry_line entries

-- journals, numbered from this number on
abbrev pub journals_lines : ℕ → List (List Entry) → List ℕ
journals_lines first [] = []
journals_lines first (entries ∷ journals) = journal_lines first entries ++ journals_lines (first + 1) journals

-- a whole world: the names of its participants, and their journals in the order of their numbers
abbrev pub world_text : List (List ℕ) → List (List Entry) → List ℕ
world_text names journals = head_lines names ++ journals_lines 0 journals
