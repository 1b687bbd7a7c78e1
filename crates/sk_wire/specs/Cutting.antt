-- A stream that comes in pieces.
use Rattle.std.specs.Prelude.{ℕ, ◌+◌, ◌-◌, List, [], ◌∷◌, ◌++◌, length, Option, Some, None}
use Rattle.sk_wire.specs.declared.fault.WireFault.{WireFault}
use Rattle.sk_wire.specs.Stream.{Parts}
use Rattle.sk_wire.specs.Parts.{parts}
use Rattle.sk_wire.specs.Seen.{following}

-- so many bytes had these parts, and then a piece came: behind a fault nothing is read, else the open rest and the piece
abbrev pub after_piece : Option WireFault → ℕ → Parts → List ℕ → Parts
after_piece (Some f) fed p piece = p
after_piece None fed p piece = following p.messages (parts (fed - length p.rest) (p.rest ++ piece))

abbrev pub after_pieces : ℕ → Parts → List (List ℕ) → Parts
after_pieces fed p [] = p
after_pieces fed p (piece ∷ pieces) = after_pieces (fed + length piece) (after_piece p.fault fed p piece) pieces

-- the pieces, one behind another
abbrev pub joined : List (List ℕ) → List ℕ
joined [] = []
joined (piece ∷ pieces) = piece ++ joined pieces
