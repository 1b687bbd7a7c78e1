-- The calls of the commands on files, by their jobs.
use Rattle.std.proofs.Common.{◌≡◌, inl, inr, ℕ, true, false, ◌&&◌, List, [], ◌∷◌, codes, option_map, Option, Some, None, refl, ap, subst, arith, ◌∙◌, if◌then◌else◌}
use Rattle.std.specs.Option.{option_or}
use Rattle.std.specs.Str.{bytes_eq}
use Rattle.std.proofs.lemmas.Slice.Eq.{bytes_eq-Decides}
use Rattle.clap.specs.Words.{App, Text}
use Rattle.sk_tools.specs.Words.{SimulationPlan, ScenarioPlan, file_in, file_to_check, simulation_in, simulation_of, scenario_in, scenario_of, check_app, simulate_app, generate_app, is_command, takes_words, rows_read, value_of}
use Rattle.sk_base.specs.Statuses.{status_number}
use Rattle.sk_tools.specs.Usage.{IsRefusalOf, ends_refused}
use Rattle.sk_tools.specs.Jobs.{Job, Check, Simulate, Generate, Run, job_of, offline_job}
use Rattle.sk_tools.specs.Seen.{FilesSeen, SinkSeen}
use Rattle.sk_tools.specs.OfflineCall.{Does, IsOfflineCall}
use Rattle.sk_tools.specs.declared.words.Refused.{Refused}
use Rattle.sk_tools.specs.declared.words.Refused.TheVariants as refused
use Rattle.sk_tools.specs.Generate.{IsGenerateStatus}
use Rattle.sk_tools.proofs.GenerateLaws.{generate_unrun, run_unrun}
use Rattle.sk_tools.proofs.OfflineLaws.{check_unrun}
use Rattle.sk_tools.proofs.SimulateLaws.{simulate_unrun}

-- words of one command aren't those of another
other_word : (name other : List ℕ) (app : App) (words : List Text) → is_command name words ≡ true → bytes_eq name other ≡ false → file_in other app words ≡ None
other_word name other app [] is differ = refl
other_word name other app (word ∷ words) is differ =
    let same : word ≡ name = (bytes_eq-Decides word name).0 is in
    ap (λ b. if b && takes_words app (word ∷ words) then value_of (rows_read app (word ∷ words)) (codes "FILE") else None)
    (ap (λ w. bytes_eq w other) same ∙ differ)

no_word : (name : List ℕ) (app : App) (words : List Text) → is_command name words ≡ false → file_in name app words ≡ None
no_word name app words isnt = ap (λ b. if b && takes_words app words then value_of (rows_read app words) (codes "FILE") else None) isnt

-- nor do they say which scenario is run
other_simulation : (name : List ℕ) (words : List Text) → is_command name words ≡ true → bytes_eq name (codes "simulate") ≡ false → simulation_of words ≡ None
other_simulation name [] is differ = refl
other_simulation name (word ∷ words) is differ =
    let same : word ≡ name = (bytes_eq-Decides word name).0 is in
    ap (λ b. if b && takes_words simulate_app (word ∷ words) then simulation_in (rows_read simulate_app (word ∷ words)) else None)
    (ap (λ w. bytes_eq w (codes "simulate")) same ∙ differ)

no_simulation : (words : List Text) → is_command (codes "simulate") words ≡ false → simulation_of words ≡ None
no_simulation words isnt = ap (λ b. if b && takes_words simulate_app words then simulation_in (rows_read simulate_app words) else None) isnt

-- nor do they say what a scenario is made of
other_plan : (name : List ℕ) (words : List Text) → is_command name words ≡ true → bytes_eq name (codes "generate") ≡ false → scenario_of words ≡ None
other_plan name [] is differ = refl
other_plan name (word ∷ words) is differ =
    let same : word ≡ name = (bytes_eq-Decides word name).0 is in
    ap (λ b. if b && takes_words generate_app (word ∷ words) then scenario_in (rows_read generate_app (word ∷ words)) else None)
    (ap (λ w. bytes_eq w (codes "generate")) same ∙ differ)

no_plan : (words : List Text) → is_command (codes "generate") words ≡ false → scenario_of words ≡ None
no_plan words isnt = ap (λ b. if b && takes_words generate_app words then scenario_in (rows_read generate_app words) else None) isnt

-- the job by what each command reads
abbrev job_by : Option (List ℕ) → Option SimulationPlan → Option ScenarioPlan → Option Job
job_by check simulate generate = option_or (option_map Check check) (option_or (option_map Simulate simulate) (option_map job_of generate))

by_reads : (words : List Text) (check : Option (List ℕ)) (simulate : Option SimulationPlan) (generate : Option ScenarioPlan) → file_to_check words ≡ check → simulation_of words ≡ simulate → scenario_of words ≡ generate
    → offline_job words ≡ job_by check simulate generate
by_reads words check simulate generate one two three = λ j. job_by (one j) (two j) (three j)

-- a reading of its words is one of a job
pub check_job : (words : List Text) {name : List ℕ} → file_to_check words ≡ Some name → offline_job words ≡ Some (Check name)
check_job words {name} is = by_reads words (Some name) (simulation_of words) (scenario_of words) is refl refl

pub simulate_job : (words : List Text) {plan : SimulationPlan} → is_command (codes "simulate") words ≡ true → simulation_of words ≡ Some plan → offline_job words ≡ Some (Simulate plan)
simulate_job words {plan} command is = by_reads words None (Some plan) (scenario_of words) (other_word (codes "simulate") (codes "check") check_app words command refl) is refl

pub generate_job : (words : List Text) {plan : ScenarioPlan} → is_command (codes "generate") words ≡ true → scenario_of words ≡ Some plan → offline_job words ≡ Some (job_of plan)
generate_job words {plan} command is =
    by_reads words None None (Some plan) (other_word (codes "generate") (codes "check") check_app words command refl) (other_simulation (codes "generate") words command refl) is

-- no reading as the one where it isn't the others
no_check : (words : List Text) → is_command (codes "simulate") words ≡ false → is_command (codes "generate") words ≡ false → file_to_check words ≡ None → offline_job words ≡ None
no_check words simulate generate none = by_reads words None None None none (no_simulation words simulate) (no_plan words generate)

pub no_check_job : (words : List Text) (why : Refused) → is_command (codes "simulate") words ≡ false → is_command (codes "generate") words ≡ false → IsRefusalOf (file_to_check words) why → IsRefusalOf (offline_job words) why
no_check_job words (refused.Words text) simulate generate none = no_check words simulate generate none
no_check_job words refused.Usage simulate generate none = no_check words simulate generate none
no_check_job words refused.WantOfMemory simulate generate none = none

no_simulate : (words : List Text) → is_command (codes "simulate") words ≡ true → simulation_of words ≡ None → offline_job words ≡ None
no_simulate words command none =
    by_reads words None None None (other_word (codes "simulate") (codes "check") check_app words command refl) none (other_plan (codes "simulate") words command refl)

pub no_simulate_job : (words : List Text) (why : Refused) → is_command (codes "simulate") words ≡ true → IsRefusalOf (simulation_of words) why → IsRefusalOf (offline_job words) why
no_simulate_job words (refused.Words text) command none = no_simulate words command none
no_simulate_job words refused.Usage command none = no_simulate words command none
no_simulate_job words refused.WantOfMemory command none = none

no_generate : (words : List Text) → is_command (codes "generate") words ≡ true → scenario_of words ≡ None → offline_job words ≡ None
no_generate words command none =
    by_reads words None None None (other_word (codes "generate") (codes "check") check_app words command refl) (other_simulation (codes "generate") words command refl) none

pub no_generate_job : (words : List Text) (why : Refused) → is_command (codes "generate") words ≡ true → IsRefusalOf (scenario_of words) why → IsRefusalOf (offline_job words) why
no_generate_job words (refused.Words text) command none = no_generate words command none
no_generate_job words refused.Usage command none = no_generate words command none
no_generate_job words refused.WantOfMemory command none = none

no_usage : (job : Job) (files : FilesSeen) (out err : SinkSeen) (answer : ℕ) → Does job files out err answer → answer ≡ 2 → ⊥
no_usage (Check file) files out err answer does two = let known = rw two at does.known in absurd cc
no_usage (Simulate plan) files out err answer does two = let known = rw two at does.known in absurd cc
no_usage (Run plan) files out err answer does two = let known = rw two at does.known in absurd cc
no_usage (Generate plan) files out err answer does two = not_two answer does.known two
  where
    not_two : (answer : ℕ) → IsGenerateStatus answer → answer ≡ 2 → ⊥
    not_two answer (inl zero) two = absurd (omega (arith, zero, two))
    not_two answer (inr (inl four)) two = absurd (omega (arith, four, two))
    not_two answer (inr (inr five)) two = absurd (omega (arith, five, two))

-- memory ran out before anything was done
unrun : (job : Job) (files : FilesSeen) (out err : SinkSeen) → files.faults_now ≡ files.faults → out.faults_now ≡ out.faults
    → out.written_now ≡ out.written → Does job files out err 5
unrun (Check file) files out err reads writes same = check_unrun file files out err 5 refl reads writes same
unrun (Simulate plan) files out err reads writes same = simulate_unrun plan files out err reads writes same
unrun (Run plan) files out err reads writes same = run_unrun plan files out err reads writes same
unrun (Generate plan) files out err reads writes same = generate_unrun plan files out err reads writes same

module _ (words : List (List ℕ)) (files : FilesSeen) (out err : SinkSeen) where
  pub offline_ran : (job : Job) (answer : ℕ) → offline_job words ≡ Some job → Does job files out err answer → IsOfflineCall words files out err answer
  offline_ran job answer reads does = record {
    usage = (λ two. absurd (no_usage job files out err answer does two), λ none. absurd (let one = reads in cc));
    refused = λ none. absurd (let one = reads in cc);
    does = λ other is. let same : job ≡ other = let one = reads in cc in subst (λ j. Does j files out err answer) same does;
  }

  pub offline_still : (why : Refused) → files.faults_now ≡ files.faults → out.faults_now ≡ out.faults → out.written_now ≡ out.written
      → IsRefusalOf (offline_job words) why → IsOfflineCall words files out err (status_number (ends_refused why))
  offline_still (refused.Words text) reads writes same none = record {
    usage = (λ _. none, λ _. inl refl);
    refused = λ _. record { known = inl refl; reads_steady = reads; writes_steady = writes; silent = λ _. same };
    does = λ job is. absurd (let one = none in cc);
  }
  offline_still refused.Usage reads writes same none = record {
    usage = (λ _. none, λ _. inl refl);
    refused = λ _. record { known = inl refl; reads_steady = reads; writes_steady = writes; silent = λ _. same };
    does = λ job is. absurd (let one = none in cc);
  }
  offline_still refused.WantOfMemory reads writes same none = record {
    usage = (λ e. absurd (omega arith), λ _. inr refl);
    refused = λ _. record { known = inr refl; reads_steady = reads; writes_steady = writes; silent = λ _. same };
    does = λ job is. unrun job files out err reads writes same;
  }
