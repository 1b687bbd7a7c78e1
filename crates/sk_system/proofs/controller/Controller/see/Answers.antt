use Rattle.std.proofs.Common.{◌≡◌, ℕ, ◌||◌, List, Option, false, cond, sym, ◌∙◌, ap, subst}
use Rattle.sk_msg.specs.declared.state.State.{State}
use Rattle.sk_msg.specs.declared.state.State.TheVariants.{Error}
use Rattle.sk_system.specs.Controller.{Controller, has_ended, with_decision}
use Rattle.sk_system.specs.Table.{seen_of, put, state_or_error}
use Rattle.sk_system.specs.System.{system_of, last_states, some_is}
use Rattle.sk_system.proofs.controller.Controller.see.Goals as goal

pub returns-clause-kept : goal.returns-clause-kept
returns-clause-kept c =
    let inside = c.self.inside in
    let controller : Controller = record { required = inside.required; table = inside.table; printed = inside.printed; aborted = inside.aborted; aborting = inside.aborting } in
    let noted : c.put.new.self ≡ put c.args.name.now c.args.seen inside.table = c.in_ok-put.ensures.ok in
    let names : c.as_slice.result.now ≡ inside.required = c.as_slice.ensures in
    let overlay : List ℕ → Option State = λ name. state_or_error (seen_of (put c.args.name.now c.args.seen inside.table) name) in
    let system : c.system-system.result ≡ system_of (last_states overlay inside.required) = rw (← names) c.system-system.ensures in
    let error : c.some_is-has_error.result ≡ some_is Error (last_states overlay inside.required) = rw (← names) c.some_is-has_error.ensures in
    let going_on : has_ended controller ≡ false = ap has_ended c.self.view_is ∙ sym c.has_ended.ensures ∙ c.if-has_ended.false in
    let after : Controller = record { required = inside.required; table = c.put.new.self; printed = c.system-system.result; aborted = inside.aborted || c.some_is-has_error.result; aborting = inside.aborting || c.args.aborting } in
    let IsAfter : Controller → Type 0 = λ h. after ≡ cond (has_ended h) h (with_decision (record h { table = put c.args.name.now c.args.seen h.table; aborting = h.aborting || c.args.aborting })) in
    let is : IsAfter controller = rw (going_on, noted, system, error) in
    subst IsAfter c.self.view_is is
