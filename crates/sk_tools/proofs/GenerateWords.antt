-- What the words of `generate` read as, from what is found in them.
use Rattle.std.proofs.Common.{◌≡◌, true, List, codes, Some, None, refl}
use Rattle.clap.specs.Words.{App, Row, Text}
use Rattle.sk_tools.specs.Words.{generate_app, is_command, takes_words, rows_read, value_of, is_set, scenario_from, scenario_in, scenario_of}

pub read_in : (words : List Text) (app : App) (rows : List Row) → is_command (codes "generate") words ≡ true → app ≡ generate_app → takes_words app words ≡ true → rows ≡ rows_read app words
    → scenario_of words ≡ scenario_in rows
read_in words app rows command same takes is =
    let taken = rw same at takes in
    let read = rw same at is in
    rw (command, taken, read) refl

pub no_participants : (rows : List Row) (number : Text) → Some number ≡ value_of rows (codes "NUMBER") → None ≡ value_of rows (codes "PARTICIPANTS") → scenario_in rows ≡ None
no_participants rows number one two = rw (← one, ← two) refl

pub no_steps : (rows : List Row) (number participants : Text) → Some number ≡ value_of rows (codes "NUMBER") → Some participants ≡ value_of rows (codes "PARTICIPANTS") → None ≡ value_of rows (codes "STEPS")
    → scenario_in rows ≡ None
no_steps rows number participants one two three = rw (← one, ← two, ← three) refl

pub all_given : (rows : List Row) (number participants steps : Text) → Some number ≡ value_of rows (codes "NUMBER") → Some participants ≡ value_of rows (codes "PARTICIPANTS") → Some steps ≡ value_of rows (codes "STEPS")
    → scenario_in rows ≡ scenario_from number participants steps (is_set rows (codes "run"))
all_given rows number participants steps one two three = rw (← one, ← two, ← three) refl
