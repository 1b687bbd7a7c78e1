use Rattle.std.proofs.Common.{◌≡◌, ◌∙◌, inl, inr, refl, [], ◌∷◌, length, true, false, Bool, rules}
use Rattle.std.specs.Prelude.{◌&&◌, ◌==◌}
use Rattle.clap.specs.Kinds.{Kinds, IsAmong}
use Rattle.clap.specs.declared.error.kind.ErrorKind.{ErrorKind}
use Rattle.sk_tools.specs.Words.{takes_words, rows_read}
use Rattle.sk_tools.proofs.words.parse.Goals as goal

some_kind : (k : ErrorKind) (kinds : Kinds) → IsAmong k kinds → (length kinds == 0) ≡ false
some_kind k [] h = absurd h
some_kind k (x ∷ xs) h = search rules

first_true : (a b : Bool) → (a && b) ≡ true → a ≡ true
first_true true b h = refl
first_true false b h = h

pub returns-in-Ok-clause-taken : goal.returns-in-Ok-clause-taken
unfolding takes_words
returns-in-Ok-clause-taken c = rw (c.in-Ok.ensures.kinds c.requires) refl

pub returns-in-Ok-clause-rows : goal.returns-in-Ok-clause-rows
unfolding rows_read
returns-in-Ok-clause-rows c = (c.in-Ok.ensures.matches (first_true _ _ c.requires)).0

pub returns-in-Ok-to_string-clause-refused : goal.returns-in-Ok-to_string-clause-refused
unfolding takes_words
returns-in-Ok-to_string-clause-refused c =
    elim (c.in-Err.ensures.kinds c.requires) [
      | inl memory ↦ absurd (c.in_default.not-OutOfMemory (c.kind.ensures ∙ memory))
      | inr among ↦ inr (some_kind _ _ among)
    ]
