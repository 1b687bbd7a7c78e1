-- What a path leads to, over any reading of bytes, and what a command that reads it says, writes and answers.
use Rattle.std.specs.Prelude.{◌≡◌, ◌≢◌, ◌^◌, ◌++◌, ℕ, Bool, true, false, nat_lt, Option, Some, None, Result, Ok, Err, List, [], length, codes, if◌then◌else◌}
use Rattle.sk_tools.specs.Outside.{IsPartWritten}
use Rattle.sk_tools.specs.declared.outside.reading.ReadRefused.{ReadRefused}
use Rattle.sk_tools.specs.declared.outside.reading.ReadRefused.TheVariants as refused

-- no file, one that is too long, one with a fault, or one that says this
pub data Found (F A : Type 0) : Type 0 where
  Absent : Found F A
  TooLong : Found F A
  Faulty : F → Found F A
  Valid : A → Found F A

-- by what the bytes read as
abbrev pub found_by : {F A : Type 0} → Result A F → Found F A
found_by (Ok value) = Valid value
found_by (Err fault) = Faulty fault

-- the content of a path is judged: its length, at most 16,777,216 bytes, and then what it reads as
unfoldable pub found_in : {F A : Type 0} → (List ℕ → Result A F) → Option (List ℕ) → Found F A
found_in reading None = Absent
found_in reading (Some bytes) = if nat_lt (2 ^ 24) (length bytes) then TooLong else found_by (reading bytes)

-- there is a file, and nothing is wrong with it
abbrev pub is_valid : {F A : Type 0} → Found F A → Bool
is_valid Absent = false
is_valid TooLong = false
is_valid (Faulty fault) = false
is_valid (Valid value) = true

-- ## Lines

abbrev pub line : List ℕ → List ℕ
line text = text ++ codes "\n"

-- about something: what is wrong
abbrev pub complaint : List ℕ → List ℕ → List ℕ
complaint about wrong = codes "silkit: " ++ about ++ codes ": " ++ wrong ++ codes "\n"

-- what is said of a file: of its fault, and of what it says, as these two have it
abbrev pub remarks_by : {F A : Type 0} → (F → List ℕ) → (A → List ℕ) → List ℕ → Found F A → List ℕ
remarks_by of_fault of_value file Absent = complaint file (codes "no such file")
remarks_by of_fault of_value file TooLong = complaint file (codes "more than 16777216 bytes")
remarks_by of_fault of_value file (Faulty fault) = of_fault fault
remarks_by of_fault of_value file (Valid value) = of_value value

-- what is said of a file that wasn't read
abbrev pub said_unread : List ℕ → ReadRefused → List ℕ
said_unread file refused.Absent = complaint file (codes "no such file")
said_unread file refused.TooLong = complaint file (codes "more than 16777216 bytes")
said_unread file refused.Fault = complaint (codes "read fault") file
said_unread file refused.WantOfMemory = []

-- ## By the number that is answered

-- status 1 only where there is no valid file, 0 and 4 only where there is one
pub record IsJudged {F A : Type 0} (found : Found F A) (answer : ℕ) : Type 0 where
  pub done : answer ≡ 0 → is_valid found ≡ true
  pub refused : answer ≡ 1 → is_valid found ≡ false
  pub written : answer ≡ 4 → is_valid found ≡ true

-- what stands on the output: all of the text with status 0, a part of it with status 4, and else nothing new
pub record IsOutput (text : List ℕ) (answer : ℕ) (before now : List ℕ) : Type 0 where
  pub whole : answer ≡ 0 → now ≡ before ++ text
  pub part : answer ≡ 4 → IsPartWritten before now text
  pub nothing : answer ≢ 0 → answer ≢ 4 → now ≡ before
