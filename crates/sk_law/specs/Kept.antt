-- What a kept journal stands for.
use Rattle.std.specs.Prelude.{◌≡◌, ℕ, List}
use mathlib.Core.List.{IsPrefix}
use Rattle.sk_law.specs.declared.setup.Setup.{Setup}
use Rattle.sk_law.specs.Past.{Past}

-- the setup, what has happened, and how many messages were taken out for each number
pub record Kept : Type 0 where
  pub setup : Setup
  pub past : Past
  pub out : List ℕ

-- with this past
abbrev pub grown : Past → Kept → Kept
grown past k = record k { past = past }

-- where memory was refused within something: the journal only grew, and is a front of the whole
pub record IsCut (old new : Kept) (all : Past) : Type 0 where
  pub setup : new.setup ≡ old.setup
  pub out : new.out ≡ old.out
  pub grows : IsPrefix old.past.journal new.past.journal
  pub front : IsPrefix new.past.journal all.journal

-- no entry was added and nothing was taken out; what is remembered may have changed
pub record AddsNothing (old new : Kept) : Type 0 where
  pub setup : new.setup ≡ old.setup
  pub out : new.out ≡ old.out
  pub entries : new.past.journal ≡ old.past.journal
