use Rattle.std.proofs.Common.{◌≤◌, ◌<◌, ◌^◌, ap, sym, subst, length, rules}
use Rattle.sk_law.specs.declared.tally.Tally.{Tally}
use Rattle.sk_law.proofs.Keeping.{few-begun}
use Rattle.sk_law.proofs.journal.Journal.next_number.Goals as goal

pub returns-clause-small : goal.returns-clause-small
returns-clause-small c =
    let all : length c.self.inside.entries.items < 2 ^ 63 = search rules in
    subst (λ n. n ≤ 2 ^ 63) (sym (ap (λ (t : Tally). t.next) c.self.invariant.tied.tally_is)) (few-begun c.self.inside.entries.items (2 ^ 63) all)
