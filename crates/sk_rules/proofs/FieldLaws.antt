-- What a reading at a key says of what was read.
use Rattle.std.proofs.Common.{◌≡◌, ℕ, ◌≤◌, List, Some, Ok, subst}
use Rattle.serde_json.specs.Data.{Data}
use Rattle.sk_config.specs.Json.{number_at, number_fault}
use Rattle.sk_rules.specs.Faults.{scenario_faults}
use Rattle.sk_rules.specs.Fields.{number_read, needed_number}
use Rattle.sk_rules.proofs.JsonLaws.{number_in_range}
use Rattle.sk_rules.proofs.OutcomeLaws.{then_ok, checked_ok, found_ok}

-- a number that was read is in its range
pub number_within : (low high : ℕ) (path key : List ℕ) (d : Data) (n : ℕ) → number_read low high path key d ≡ Ok (Some n) → (low ≤ n) × (n ≤ high)
unfolding number_read
number_within low high path key d n e =
    let parts = checked_ok (number_fault scenario_faults low high path key d) (number_at key d) (Some n) e in
    number_in_range low high path key d n parts.0 parts.1

pub needed_within : (low high : ℕ) (path key : List ℕ) (d : Data) (n : ℕ) → needed_number low high path key d ≡ Ok n → (low ≤ n) × (n ≤ high)
unfolding needed_number
needed_within low high path key d n e =
    then_ok (number_read low high path key d) _ n e
    (λ o read is. number_within low high path key d n (subst (λ x. number_read low high path key d ≡ Ok x) (found_ok _ _ o n is) read))
