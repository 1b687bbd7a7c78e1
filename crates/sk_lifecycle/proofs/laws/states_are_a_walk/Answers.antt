use Rattle.std.proofs.Common.{refl}
use Rattle.sk_lifecycle.specs.Course.{start}
use Rattle.sk_lifecycle.proofs.CourseLaws.{passed_path, last_of-passed}
use Rattle.sk_lifecycle.proofs.laws.states_are_a_walk.Goals as goal

pub returns-clause-walk : goal.returns-clause-walk
returns-clause-walk c = λ coordinated calls. (refl, passed_path (start coordinated) calls)

pub returns-clause-end : goal.returns-clause-end
returns-clause-end c = λ coordinated calls. last_of-passed (start coordinated) calls
