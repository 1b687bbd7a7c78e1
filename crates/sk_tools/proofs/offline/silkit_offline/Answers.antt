use Rattle.std.proofs.Common.{◌∙◌, refl, sym, map, string_bytes}
use Rattle.sk_tools.proofs.CallLaws.{check_job, simulate_job, generate_job, no_check_job, no_simulate_job, no_generate_job, offline_ran, offline_still}
use Rattle.sk_tools.proofs.OfflineLaws.{check_ran}
use Rattle.sk_tools.proofs.SimulateLaws.{simulate_ran}
use Rattle.sk_tools.proofs.offline.silkit_offline.Goals as goal

pub returns-in-Ok : goal.returns-in-Ok
returns-in-Ok g c =
    let done = c.simulate.ensures in
    rw (c.number.ensures, c.exit_status.ensures)
    (offline_ran _ _ _ _ _ _ (simulate_job (map string_bytes c.args.words.now) (sym c.is_command.ensures ∙ c.if-is_command.true) c.in-Ok.ensures)
    (simulate_ran _ _ _ _ c.simulate.result done.reads done.writes done.leaves))

pub returns-in-Err : goal.returns-in-Err
returns-in-Err g c =
    rw (c.number-in-Err.ensures, c.refuse_words.ensures)
    (offline_still _ _ _ _ c.in-Err.refused refl refl refl
    (no_simulate_job (map string_bytes c.args.words.now) c.in-Err.refused (sym c.is_command.ensures ∙ c.if-is_command.true) c.in-Err.ensures))

pub returns-in-Ok-read_check : goal.returns-in-Ok-read_check
returns-in-Ok-read_check g c =
    let done = c.check.ensures in
    rw (c.number-in-Ok-read_check.ensures, c.exit_status-in-Ok-read_check.ensures)
    (offline_ran _ _ _ _ _ _ (check_job (map string_bytes c.args.words.now) c.in-Ok-read_check.ensures)
    (check_ran _ _ _ _ c.check.result done.reads done.writes done.ends done.written done.said))

pub returns-in-Err-read_check : goal.returns-in-Err-read_check
returns-in-Err-read_check g c =
    rw (c.number-in-Err-read_check.ensures, c.refuse_words-in-Err-read_check.ensures)
    (offline_still _ _ _ _ c.in-Err-read_check.refused refl refl refl
    (no_check_job (map string_bytes c.args.words.now) c.in-Err-read_check.refused (sym c.is_command.ensures ∙ c.if-is_command.false) (sym c.is_command-else-is_command.ensures ∙ c.if-is_command-2.false) c.in-Err-read_check.ensures))

pub returns-in-Ok-read_generate : goal.returns-in-Ok-read_generate
returns-in-Ok-read_generate g c =
    offline_ran _ _ _ _ _ _ (generate_job (map string_bytes c.args.words.now) (sym c.is_command-else-is_command.ensures ∙ c.if-is_command-2.true) c.in-Ok-read_generate.ensures.reads)
    (c.write_or_run.ensures _ refl)

pub returns-in-Err-read_generate : goal.returns-in-Err-read_generate
returns-in-Err-read_generate g c =
    rw (c.number-in-Err-read_generate.ensures, c.refuse_words-in-Err-read_generate.ensures)
    (offline_still _ _ _ _ c.in-Err-read_generate.refused refl refl refl
    (no_generate_job (map string_bytes c.args.words.now) c.in-Err-read_generate.refused (sym c.is_command-else-is_command.ensures ∙ c.if-is_command-2.true) c.in-Err-read_generate.ensures.reads))
