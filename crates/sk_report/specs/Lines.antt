-- The lines of a report, with their newlines. Numbers are decimal without leading zeros, and times in ns of virtual time.
use Rattle.std.specs.Prelude.{ℕ, ◌+◌, List, [], ◌∷◌, ◌++◌, codes, decimal, Option, Some, None}
use Rattle.std.specs.List.{flat_map}
use Rattle.sk_msg.specs.declared.content.Content.{Content}
use Rattle.sk_msg.specs.declared.head.Head.{Head}
use Rattle.sk_msg.specs.Heads.{head_of}
use Rattle.sk_law.specs.Script.{Delivery, Step}
use Rattle.sk_report.specs.Contents.{spaced, content_text}
use Rattle.sk_report.specs.Names.{PartNames, names_at, service_name}

-- words with a space between each two, and a newline
abbrev pub line : List (List ℕ) → List ℕ
line [] = codes "\n"
line (word ∷ []) = word ++ codes "\n"
line (word ∷ next ∷ words) = word ++ (codes " " ++ line (next ∷ words))

-- the participant of this number has this name
unfoldable pub participant_line : ℕ → List ℕ → List ℕ
participant_line number name = line (codes "participant" ∷ decimal number ∷ name ∷ [])

-- the step of this number begins at this time
unfoldable pub step_line : ℕ → ℕ → List ℕ
step_line number at = line (codes "step" ∷ decimal number ∷ decimal at ∷ [])

-- a message with this stamp, of this peer, with this content, is seen at the own service of this name; what isn't shown has
-- no line
unfoldable pub saw_text : ℕ → ℕ → Option (List ℕ) → List ℕ → List ℕ
saw_text stamp peer None name = []
saw_text stamp peer (Some content) name = line (codes "saw" ∷ decimal stamp ∷ decimal peer ∷ content ∷ name ∷ [])

-- a message that a step sees
abbrev pub saw_line : PartNames → Delivery → List ℕ
saw_line names item = saw_text item.stamp item.peer (content_text item.message) (service_name names item.service)

-- the name of the own service that sends with this head; without one it is empty
abbrev pub sender_name : PartNames → Option Head → List ℕ
sender_name names None = []
sender_name names (Some head) = service_name names head.service

-- this content is sent by the own service of this name; what isn't shown has no line
unfoldable pub sent_text : Option (List ℕ) → List ℕ → List ℕ
sent_text None name = []
sent_text (Some content) name = line (codes "sent" ∷ content ∷ name ∷ [])

-- a message that was sent in a step
abbrev pub sent_line : PartNames → Content → List ℕ
sent_line names m = sent_text (content_text m) (sender_name names (head_of m))

-- the step of this number: when it begins, what it sees and what was sent in it
abbrev pub step_text : PartNames → ℕ → ℕ → List Delivery → List Content → List ℕ
step_text names number at seen sends =
    step_line number at ++ (flat_map (saw_line names) seen ++ flat_map (sent_line names) sends)

-- a step of this number
abbrev pub step_lines : PartNames → ℕ → Step → List ℕ
step_lines names number step = step_text names number step.view.at step.view.seen step.sends

-- steps, numbered from this number on
abbrev pub steps_lines : PartNames → ℕ → List Step → List ℕ
steps_lines names first [] = []
steps_lines names first (step ∷ steps) = step_lines names first step ++ steps_lines names (first + 1) steps

-- the participant of this number: its name, and its steps, numbered from 1
abbrev pub participant_lines : PartNames → ℕ → List Step → List ℕ
participant_lines names number steps = participant_line number names.name ++ steps_lines names 1 steps

-- the steps of participants, numbered from this number on
abbrev pub participants_lines : List PartNames → ℕ → List (List Step) → List ℕ
participants_lines parts first [] = []
participants_lines parts first (steps ∷ all) =
    participant_lines (names_at parts first) first steps ++ participants_lines parts (first + 1) all
