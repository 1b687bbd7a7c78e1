use Rattle.std.proofs.Common.{◌≡◌, None, sym, ap, ◌∙◌}
use Rattle.sk_system.specs.Monitor.{Monitor}
use Rattle.sk_system.specs.Table.{seen_of}
use Rattle.sk_system.specs.System.{system_of, last_states}
use Rattle.sk_system.proofs.MonitorLaws.{requiring-first}
use Rattle.sk_system.proofs.monitor.Monitor.require.Goals as goal

pub returns-clause-kept : goal.returns-clause-kept
returns-clause-kept c =
    let none : c.args.self.now.required ≡ None = ap (λ (monitor : Monitor). monitor.required) (sym c.self.view_is) ∙ c.in_default.is in
    let names : c.as_slice.result.now ≡ c.args.required.now = c.as_slice.ensures in
    let system : c.system-system.result ≡ system_of (last_states (λ name. (seen_of c.self.inside.table name).state) c.args.required.now) = rw (← names) c.system-system.ensures in
    let copied : c.in_ok-copy.field-0 ≡ c.args.required.now = c.in_ok-copy.ensures in
    rw (requiring-first c.args.self.now c.args.required.now none, ← c.self.view_is, copied, system)
