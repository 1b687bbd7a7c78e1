use Rattle.std.specs.Prelude.{◌≡◌, ◌<◌, ◌≤◌, List, length, slice_set}
use Rattle.std.proofs.Common.{sym, subst, rules}
use Rattle.sk_law.specs.declared.memory.ServiceState.{ServiceState}
use Rattle.sk_law.specs.Receivers.{changed, with_noted}
use Rattle.sk_law.proofs.Serving.{changed-by, changed-past, on_ok_to}
use Rattle.sk_law.proofs.memory.ServiceStates.note.Goals as goal
use Rattle.sk_law.proofs.memory.ServiceStates.note.Goals.{in-Some, in-None}

pub returns-clause-ok : goal.returns-clause-ok
returns-clause-ok c =
    let change : ServiceState → ServiceState = with_noted c.args.peer c.args.service c.args.response in
    elim c.match-get_mut.branch [
      | in-Some w ↦
          let lt : c.args.number < length c.self.inside.states.items = search rules in
          rw (w.self-inside-is, w.result-is) (on_ok_to w.note.result w.note.ensures.ok
          (λ e. subst (λ (v : List ServiceState). slice_set c.self.inside.states.items c.args.number w.note.new.self ≡ changed change c.args.number v) c.self.view_is
          (changed-by change c.args.number c.self.inside.states.items w.in-Some.at.now w.note.new.self lt w.in-Some.ensures.value e)))
      | in-None w ↦
          let le : length c.self.inside.states.items ≤ c.args.number = search rules in
          rw (w.self-inside-is, w.result-is)
          (subst (λ (v : List ServiceState). c.self.inside.states.items ≡ changed change c.args.number v) c.self.view_is
          (sym (changed-past change c.args.number c.self.inside.states.items le)))
    ]
