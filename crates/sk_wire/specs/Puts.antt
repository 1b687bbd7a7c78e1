-- What writing at the end of a buffer leaves.
use Rattle.std.specs.Prelude.{◌≡◌, ℕ, List, ◌++◌, length, take, Result, MatchResult}
use Rattle.sk_base.specs.declared.fault.WantOfMemory.{WantOfMemory}

-- the bytes stand at the end, or the buffer still begins as it was
abbrev pub Puts : Result (Unit {0}) WantOfMemory → List ℕ → List ℕ → List ℕ → Type 0
Puts result old new bytes = MatchResult result (λ _. new ≡ old ++ bytes) (λ _. take (length old) new ≡ old)
