use Rattle.std.proofs.Common.{◌∙◌}
use Rattle.sk_registry.proofs.KeptLaws.{after_push}
use Rattle.sk_registry.proofs.directory.Directory.put_last.Goals as goal

pub invariant_of-self-2 : goal.invariant_of-self-2
invariant_of-self-2 c =
    (after_push c.self.inside (record c.self.inside { table = c.insert.new.self }) c.in_ok-key.key c.args.joined c.self.invariant
    (rw c.self.view_is c.requires) (c.in_ok-key.ensures.ok ∙ c.as_str.ensures.value) c.in_ok-insert.ensures.entries).kept

pub returns-clause-last : goal.returns-clause-last
returns-clause-last c =
    rw (← c.self.view_is)
    (after_push c.self.inside (record c.self.inside { table = c.insert.new.self }) c.in_ok-key.key c.args.joined c.self.invariant
    (rw c.self.view_is c.requires) (c.in_ok-key.ensures.ok ∙ c.as_str.ensures.value) c.in_ok-insert.ensures.entries).shows

pub returns-clause-table : goal.returns-clause-table
returns-clause-table c = (invariant_of-self-2 c).table
