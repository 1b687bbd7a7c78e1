-- What reading a whole file and writing a whole text leave of the outside.
use Rattle.std.specs.Prelude.{◌≡◌, ◌≤◌, ◌<◌, ◌^◌, ◌-◌, ◌++◌, ℕ, Bool, true, Option, Some, None, IsSomeAnd, List, length, take}
use Rattle.sk_base.specs.Talk.{Rose}
use mathlib.Core.List.{IsPrefix}
use Rattle.sk_tools.specs.declared.outside.reading.ReadRefused.{ReadRefused}
use Rattle.sk_tools.specs.declared.outside.reading.ReadRefused.TheVariants.{Absent, TooLong, Fault, WantOfMemory}

-- ## Reading

-- so many bytes of the content were read, and they are these
pub record IsReadTo (all : List ℕ) (place : ℕ) (bytes : List ℕ) : Type 0 where
  pub within : place ≤ length all
  pub front : take place all ≡ bytes
  pub count : length bytes ≡ place

-- why a file of this content wasn't read
abbrev pub Explains : Option (List ℕ) → ReadRefused → Type 0
Explains content Absent = content ≡ None
Explains content TooLong = IsSomeAnd content (λ bytes. 2 ^ 24 < length bytes)
Explains content Fault = Unit {0}
Explains content WantOfMemory = Unit {0}

-- these are all its bytes
abbrev pub IsContent : Option (List ℕ) → List ℕ → Type 0
IsContent content bytes = (content ≡ Some bytes) × (length bytes ≤ 2 ^ 24)

-- the count of faults rose where the answer is Fault, and stands still everywhere else
abbrev pub CountsRefused : ℕ → ℕ → ReadRefused → Type 0
CountsRefused before now Absent = now ≡ before
CountsRefused before now TooLong = now ≡ before
CountsRefused before now Fault = Rose before now
CountsRefused before now WantOfMemory = now ≡ before

-- ## Writing

-- a part of the text was written
abbrev pub IsPartWritten : List ℕ → List ℕ → List ℕ → Type 0
IsPartWritten before now text = (part : List ℕ) × IsPrefix part text × (now ≡ before ++ part)

-- the count tells of no fault: it is the same, and not so high that it stands still
pub record HasNoFault (before now : ℕ) : Type 0 where
  pub same : now ≡ before
  pub counts : before < 2 ^ 64 - 1

-- a text was said to a sink: all of it stands there, where the count tells of no fault
pub record Says (told : Bool) (faults faults_now : ℕ) (written written_now text : List ℕ) : Type 0 where
  pub grows : faults ≤ faults_now
  pub said : told ≡ true → HasNoFault faults faults_now → written_now ≡ written ++ text
