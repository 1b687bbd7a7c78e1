-- What files that tell their contents answer.
use Rattle.std.specs.Prelude.{◌≡◌, ◌≤◌, ◌+◌, ℕ, List, length, take, drop, Option, None, IsSome, IfSome}
use Rattle.sk_base.specs.declared.files.Opened.{Opened}
use Rattle.sk_base.specs.declared.files.Opened.TheVariants.{Ready, Absent}

-- an open of a path that holds this: Absent exactly where it holds nothing; with Ready the file is open at its first byte
abbrev pub OpensFile : Opened → Option (List ℕ) → List ℕ → List ℕ → ℕ → Type 0
OpensFile Ready content asked path place = IsSome content × (path ≡ asked) × (place ≡ 0)
OpensFile Absent content asked path place = content ≡ None

-- a read of so many bytes from a place of this content on: they stand at the front of the buffer, and 0 comes only at the end
abbrev pub ReadsFrom : ℕ → List ℕ → ℕ → List ℕ → ℕ → Type 0
ReadsFrom count content before buffer now =
    (take count buffer ≡ take count (drop before content)) × (now ≡ before + count) × (now ≤ length content) × (count ≡ 0 → now ≡ length content)

-- the same of what a path holds
abbrev pub ReadsFile : ℕ → Option (List ℕ) → ℕ → List ℕ → ℕ → Type 0
ReadsFile count content before buffer now = IfSome content (λ bytes. ReadsFrom count bytes before buffer now)
