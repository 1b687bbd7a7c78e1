-- Participants in the byte order of their names.
use Rattle.std.specs.Prelude.{ℕ, suc, List, [], ◌∷◌, fold, if◌then◌else◌}
use Rattle.sk_rules.specs.Orders.{is_before}
use Rattle.sk_script.specs.Scenarios.{PartReadValue}

-- how many of these stand before a participant
abbrev pub place : PartReadValue → List PartReadValue → ℕ
place new [] = 0
place new (one ∷ reads) = if is_before one.part.name new.part.name then suc (place new reads) else 0

-- a participant behind those whose names come before its own
abbrev pub put_in_place : PartReadValue → List PartReadValue → List PartReadValue
put_in_place new [] = new ∷ []
put_in_place new (one ∷ reads) = if is_before one.part.name new.part.name then one ∷ put_in_place new reads else new ∷ one ∷ reads

-- participants in the byte order of their names: each is put in its place
unfoldable pub in_order : List PartReadValue → List PartReadValue
in_order reads = fold (λ ordered one. put_in_place one ordered) [] reads
