-- What the words of `simulate` read as, from what is found in them.
use Rattle.std.proofs.Common.{◌≡◌, true, List, codes, Some, None, refl}
use Rattle.clap.specs.Words.{App, Row, Text}
use Rattle.sk_tools.specs.Words.{simulate_app, is_command, takes_words, rows_read, value_of, is_set, simulation_in, simulation_of}

pub read_in : (words : List Text) (app : App) (rows : List Row) → is_command (codes "simulate") words ≡ true → app ≡ simulate_app → takes_words app words ≡ true → rows ≡ rows_read app words
    → simulation_of words ≡ simulation_in rows
read_in words app rows command same takes is =
    let taken = rw same at takes in
    let read = rw same at is in
    rw (command, taken, read) refl

pub no_file : (rows : List Row) → None ≡ value_of rows (codes "FILE") → simulation_in rows ≡ None
no_file rows none = rw (← none) refl

pub file_given : (rows : List Row) (file : Text) → Some file ≡ value_of rows (codes "FILE") → simulation_in rows ≡ Some (record { file = file; report = is_set rows (codes "report") })
file_given rows file one = rw (← one) refl
