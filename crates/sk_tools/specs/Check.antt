-- What `check` answers, writes and says, by what its file holds.
use Rattle.std.specs.Prelude.{◌≡◌, ◌++◌, ℕ, true, false, ◌==◌, List, [], ◌∷◌, codes, IsTrue, if◌then◌else◌}
use Rattle.std.specs.List.{flat_map, list_any}
use Rattle.sk_base.specs.Talk.{Rose}
use Rattle.sk_base.specs.declared.status.ExitStatus.{ExitStatus}
use Rattle.sk_base.specs.declared.status.ExitStatus.TheVariants as exit
use Rattle.sk_config.specs.declared.config.ConfigRead.{ConfigRead}
use Rattle.sk_config.specs.declared.fault.ConfigFault.{ConfigFault}
use Rattle.sk_config.specs.declared.warning.Warning.{Warning}
use Rattle.sk_config.specs.Written.{canonical}
use Rattle.sk_config.specs.Warned.{warning_text, fault_path, fault_rule}
use Rattle.sk_tools.specs.Outside.{IsPartWritten}
use Rattle.sk_tools.specs.Found.{Found, Absent, TooLong, Faulty, Valid, is_valid, line, complaint, remarks_by}
use Rattle.sk_tools.specs.declared.outside.reading.ReadRefused.{ReadRefused}
use Rattle.sk_tools.specs.declared.outside.reading.ReadRefused.TheVariants as refused
use Rattle.sk_tools.specs.declared.check.status.CheckStatus.{CheckStatus}
use Rattle.sk_tools.specs.declared.check.status.CheckStatus.TheVariants.{Done, BadFile, ReadFault, WriteFault, OutOfMemory}

-- what a path leads to, read as a configuration
abbrev pub FoundConfig : Type 0
FoundConfig = Found ConfigFault ConfigRead

-- a configuration
abbrev pub valid_config : ConfigRead → FoundConfig
valid_config read = Valid read

-- ## What is said and written

abbrev pub warning_lines : List Warning → List ℕ
warning_lines warnings = flat_map (λ warning. line (warning_text warning)) warnings

-- on the output
abbrev pub checked_text : FoundConfig → List ℕ
checked_text Absent = []
checked_text TooLong = []
checked_text (Faulty fault) = []
checked_text (Valid read) = line (canonical read.config)

-- on standard error: of what was found
abbrev pub remarks : List ℕ → FoundConfig → List ℕ
remarks file found =
    remarks_by (λ (fault : ConfigFault). complaint (fault_path fault) (fault_rule fault)) (λ (read : ConfigRead). warning_lines read.warnings) file found

-- and of how it ended; nothing is said here of want of memory
abbrev pub said_of : List ℕ → FoundConfig → CheckStatus → List ℕ
said_of file found Done = remarks file found
said_of file found BadFile = remarks file found
said_of file found ReadFault = complaint (codes "read fault") file
said_of file found WriteFault = remarks file found ++ line (codes "silkit: write fault")
said_of file found OutOfMemory = []

-- the same by the number that is answered
abbrev pub said_by : List ℕ → FoundConfig → ℕ → List ℕ
said_by file found answer =
    if answer == 3 then complaint (codes "read fault") file else
    if answer == 4 then remarks file found ++ line (codes "silkit: write fault") else
    remarks file found

-- ## How it ends

abbrev pub exit_of : CheckStatus → ExitStatus
exit_of Done = exit.Done
exit_of BadFile = exit.BadFile
exit_of ReadFault = exit.ReadFault
exit_of WriteFault = exit.WriteFault
exit_of OutOfMemory = exit.OutOfMemory

-- with one of these numbers
abbrev pub IsCheckStatus : ℕ → Type 0
IsCheckStatus answer = IsTrue (list_any (λ status. status == answer) (0 ∷ 1 ∷ 3 ∷ 4 ∷ 5 ∷ []))

-- of a file that wasn't read
abbrev pub EndsUnread : ReadRefused → CheckStatus → Type 0
EndsUnread refused.Absent ended = ended ≡ BadFile
EndsUnread refused.TooLong ended = ended ≡ BadFile
EndsUnread refused.Fault ended = ended ≡ ReadFault
EndsUnread refused.WantOfMemory ended = ended ≡ OutOfMemory

-- what is valid is written or its writing fails, and everything else is refused, unless reading failed or memory ran out
abbrev pub MayEnd : FoundConfig → CheckStatus → Type 0
MayEnd found Done = is_valid found ≡ true
MayEnd found BadFile = is_valid found ≡ false
MayEnd found ReadFault = Unit {0}
MayEnd found WriteFault = is_valid found ≡ true
MayEnd found OutOfMemory = Unit {0}

-- what stands on the output then: all of the text, a part of it, or nothing new
abbrev pub Leaves : CheckStatus → List ℕ → List ℕ → List ℕ → Type 0
Leaves Done text before now = now ≡ before ++ text
Leaves BadFile text before now = now ≡ before
Leaves ReadFault text before now = now ≡ before
Leaves WriteFault text before now = IsPartWritten before now text
Leaves OutOfMemory text before now = now ≡ before

-- the count of the files' faults rose with ReadFault, and with nothing else
abbrev pub CountsReads : CheckStatus → ℕ → ℕ → Type 0
CountsReads Done before now = now ≡ before
CountsReads BadFile before now = now ≡ before
CountsReads ReadFault before now = Rose before now
CountsReads WriteFault before now = now ≡ before
CountsReads OutOfMemory before now = now ≡ before

-- and that of the output's with WriteFault
abbrev pub CountsWrites : CheckStatus → ℕ → ℕ → Type 0
CountsWrites Done before now = now ≡ before
CountsWrites BadFile before now = now ≡ before
CountsWrites ReadFault before now = now ≡ before
CountsWrites WriteFault before now = Rose before now
CountsWrites OutOfMemory before now = now ≡ before
