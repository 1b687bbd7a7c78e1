-- Who answers a header, by its place among what is kept.
use Rattle.std.specs.Prelude.{◌≡◌, ◌<◌, ℕ, List, [], ◌∷◌, length, slice_index_or}
use Rattle.sk_lin.specs.Lin.{responders}
use Rattle.sk_lin.specs.declared.kept.Kept.{Kept}
use Rattle.sk_lin.specs.declared.frames.Answers.{Answers}
use Rattle.sk_lin.specs.declared.frames.Answers.TheVariants.{Nobody, One, Several}

-- at least two
abbrev pub AreSeveral : List Kept → Type 0
AreSeveral kept = (one : Kept) × (other : Kept) × (more : List Kept) × (kept ≡ one ∷ other ∷ more)

-- of those that are kept nobody answers a header of this identifier, or the one at this index alone, or several do
abbrev pub Answer : ℕ → List Kept → Answers → Type 0
Answer id kept Nobody = responders id kept ≡ []
Answer id kept (One at) = (at < length kept) × ((d : Kept) → responders id kept ≡ slice_index_or kept at d ∷ [])
Answer id kept Several = AreSeveral (responders id kept)
