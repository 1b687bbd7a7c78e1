use Rattle.std.specs.Prelude.{◌≡◌, ◌<◌, ◌≤◌, List, length, slice_set}
use Rattle.std.proofs.Common.{sym, subst, rules}
use Rattle.sk_law.specs.declared.memory.ServiceState.{ServiceState}
use Rattle.sk_law.specs.declared.memory.ServiceState.TheVariants as states
use Rattle.sk_law.specs.Receivers.{changed}
use Rattle.sk_law.proofs.Serving.{changed-by, changed-past}
use Rattle.sk_law.proofs.memory.ServiceStates.take.Goals as goal
use Rattle.sk_law.proofs.memory.ServiceStates.take.Goals.{in-Some, in-None}

pub returns-clause-rest : goal.returns-clause-rest
returns-clause-rest c =
    let change : ServiceState → ServiceState = λ at. states.Subscriber in
    elim c.match-get_mut.branch [
      | in-Some w ↦
          let lt : c.args.service < length c.self.inside.states.items = search rules in
          rw w.self-inside-is
          (subst (λ (v : List ServiceState). slice_set c.self.inside.states.items c.args.service w.replace.new.dest ≡ changed change c.args.service v) c.self.view_is
          (changed-by change c.args.service c.self.inside.states.items w.in-Some.at.now w.replace.new.dest lt w.in-Some.ensures.value w.replace.ensures.after))
      | in-None w ↦
          let le : length c.self.inside.states.items ≤ c.args.service = search rules in
          rw w.self-inside-is
          (subst (λ (v : List ServiceState). c.self.inside.states.items ≡ changed change c.args.service v) c.self.view_is
          (sym (changed-past change c.args.service c.self.inside.states.items le)))
    ]
