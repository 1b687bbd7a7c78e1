use Rattle.std.proofs.Common.{◌≡◌, ◌∙◌, refl, sym, ap, true}
use Rattle.clap.specs.Words.{is_simple_and_free}
use Rattle.clap.proofs.OnLiterals.{clap_on_literals}
use Rattle.sk_tools.specs.Words.{generate_app}
use Rattle.sk_tools.proofs.GenerateWords.{read_in, no_participants, no_steps, all_given}
use Rattle.sk_tools.proofs.words.generate.read_generate.Goals as goal

is_simple : is_simple_and_free generate_app ≡ true
unfolding generate_app clap_on_literals
is_simple = refl

pub parse-requires : goal.parse-requires
parse-requires c = ap is_simple_and_free c.in_ok-generate_command.ensures ∙ is_simple

pub returns-in_default-value-clause-reads : goal.returns-in_default-value-clause-reads
returns-in_default-value-clause-reads c =
    let read = read_in _ _ _ (sym c.is_command.ensures ∙ c.if-not-is_command.false) c.in_ok-generate_command.ensures c.in_ok-matches.ensures.taken c.in_ok-matches.ensures.rows in
    read ∙ no_participants _ _ (rw c.in-Some.is at c.value.ensures) (rw c.in_default-value.is at c.value-2.ensures)

pub returns-in_default-value-2-clause-reads : goal.returns-in_default-value-2-clause-reads
returns-in_default-value-2-clause-reads c =
    let read = read_in _ _ _ (sym c.is_command.ensures ∙ c.if-not-is_command.false) c.in_ok-generate_command.ensures c.in_ok-matches.ensures.taken c.in_ok-matches.ensures.rows in
    read ∙ no_steps _ _ _ (rw c.in-Some.is at c.value.ensures) (rw c.in-Some-value.is at c.value-2.ensures) (rw c.in_default-value-2.is at c.value-3.ensures)

pub returns-clause-reads : goal.returns-clause-reads
returns-clause-reads c =
    let read = read_in _ _ _ (sym c.is_command.ensures ∙ c.if-not-is_command.false) c.in_ok-generate_command.ensures c.in_ok-matches.ensures.taken c.in_ok-matches.ensures.rows in
    let given = all_given _ _ _ _ (rw c.in-Some.is at c.value.ensures) (rw c.in-Some-value.is at c.value-2.ensures) (rw c.in-Some-value-2.is at c.value-3.ensures) in
    rw (read, given, ← c.is_set-run.ensures) c.read_scenario_words.ensures.reads
