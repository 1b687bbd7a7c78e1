-- Words that a value has to be one of.
use Rattle.std.specs.Prelude.{ℕ, List, Option, Some, None, codes, if◌then◌else◌}
use Rattle.std.specs.Str.{bytes_eq}
use Rattle.sk_script.specs.declared.word.Mode.{Mode}
use Rattle.sk_script.specs.declared.word.Mode.TheVariants.{Coordinated, Autonomous}

-- how a participant takes part
unfoldable pub mode_of : List ℕ → Option Mode
mode_of word =
    if bytes_eq word (codes "coordinated") then Some Coordinated
    else if bytes_eq word (codes "autonomous") then Some Autonomous
    else None
