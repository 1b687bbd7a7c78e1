use Rattle.std.proofs.lemmas.Result.{err_from_is_err_and}
use Rattle.serde_json.specs.View.{view}
use Rattle.sk_config.specs.Reading.{fault_of, unused_keys}
use Rattle.sk_config.proofs.ReadLaws.{first_refuses, later_refuses}
use Rattle.sk_config.proofs.WholeLaws.{are_rules, no_fault, says_all, in_order}
use Rattle.sk_config.proofs.read.read_fields.Goals as goal

pub returns-in_err-enter-clause-value : goal.returns-in_err-enter-clause-value
unfolding fault_of
returns-in_err-enter-clause-value c =
    let r = c.from_residual in
    let p = err_from_is_err_and r.result r.ensures.1 in
    rw (p.1, p.2) (first_refuses _ _ _ c.in_err-enter.ensures)

pub returns-in_err-name_at-clause-value : goal.returns-in_err-name_at-clause-value
unfolding fault_of
returns-in_err-name_at-clause-value c =
    let r = c.from_residual-in_err-name_at in
    let p = err_from_is_err_and r.result r.ensures.1 in
    rw (p.1, p.2) (later_refuses _ _ _ c.in_ok-enter.ensures.0 (first_refuses _ _ _ c.in_err-name_at.ensures.value))

pub returns-in_err-read_list-clause-value : goal.returns-in_err-read_list-clause-value
unfolding fault_of
returns-in_err-read_list-clause-value c =
    let r = c.from_residual-in_err-read_list in
    let p = err_from_is_err_and r.result r.ensures.1 in
    rw (p.1, p.2) (later_refuses _ _ _ c.in_ok-enter.ensures.0 (later_refuses _ _ _ c.in_ok-name_at.ensures.value.0 (first_refuses _ _ _ c.in_err-read_list.ensures.value)))

pub returns-in_err-read_list-2-clause-value : goal.returns-in_err-read_list-2-clause-value
unfolding fault_of
returns-in_err-read_list-2-clause-value c =
    let r = c.from_residual-in_err-read_list-2 in
    let p = err_from_is_err_and r.result r.ensures.1 in
    rw (p.1, p.2) (later_refuses _ _ _ c.in_ok-enter.ensures.0 (later_refuses _ _ _ c.in_ok-name_at.ensures.value.0 (later_refuses _ _ _ c.in_ok-read_list.ensures.value.0 (first_refuses _ _ _ c.in_err-read_list-2.ensures.value))))

pub returns-in_err-read_list-3-clause-value : goal.returns-in_err-read_list-3-clause-value
unfolding fault_of
returns-in_err-read_list-3-clause-value c =
    let r = c.from_residual-in_err-read_list-3 in
    let p = err_from_is_err_and r.result r.ensures.1 in
    rw (p.1, p.2) (later_refuses _ _ _ c.in_ok-enter.ensures.0 (later_refuses _ _ _ c.in_ok-name_at.ensures.value.0 (later_refuses _ _ _ c.in_ok-read_list.ensures.value.0 (later_refuses _ _ _ c.in_ok-read_list-2.ensures.value.0 (first_refuses _ _ _ c.in_err-read_list-3.ensures.value)))))

pub returns-in_err-read_list-4-clause-value : goal.returns-in_err-read_list-4-clause-value
unfolding fault_of
returns-in_err-read_list-4-clause-value c =
    let r = c.from_residual-in_err-read_list-4 in
    let p = err_from_is_err_and r.result r.ensures.1 in
    rw (p.1, p.2) (later_refuses _ _ _ c.in_ok-enter.ensures.0 (later_refuses _ _ _ c.in_ok-name_at.ensures.value.0 (later_refuses _ _ _ c.in_ok-read_list.ensures.value.0 (later_refuses _ _ _ c.in_ok-read_list-2.ensures.value.0 (later_refuses _ _ _ c.in_ok-read_list-3.ensures.value.0 (first_refuses _ _ _ c.in_err-read_list-4.ensures.value))))))

pub returns-in_err-read_list-5-clause-value : goal.returns-in_err-read_list-5-clause-value
unfolding fault_of
returns-in_err-read_list-5-clause-value c =
    let r = c.from_residual-in_err-read_list-5 in
    let p = err_from_is_err_and r.result r.ensures.1 in
    rw (p.1, p.2) (later_refuses _ _ _ c.in_ok-enter.ensures.0 (later_refuses _ _ _ c.in_ok-name_at.ensures.value.0 (later_refuses _ _ _ c.in_ok-read_list.ensures.value.0 (later_refuses _ _ _ c.in_ok-read_list-2.ensures.value.0 (later_refuses _ _ _ c.in_ok-read_list-3.ensures.value.0 (later_refuses _ _ _ c.in_ok-read_list-4.ensures.value.0 (first_refuses _ _ _ c.in_err-read_list-5.ensures.value)))))))

pub returns-in_err-read_list-6-clause-value : goal.returns-in_err-read_list-6-clause-value
unfolding fault_of
returns-in_err-read_list-6-clause-value c =
    let r = c.from_residual-in_err-read_list-6 in
    let p = err_from_is_err_and r.result r.ensures.1 in
    rw (p.1, p.2) (later_refuses _ _ _ c.in_ok-enter.ensures.0 (later_refuses _ _ _ c.in_ok-name_at.ensures.value.0 (later_refuses _ _ _ c.in_ok-read_list.ensures.value.0 (later_refuses _ _ _ c.in_ok-read_list-2.ensures.value.0 (later_refuses _ _ _ c.in_ok-read_list-3.ensures.value.0 (later_refuses _ _ _ c.in_ok-read_list-4.ensures.value.0 (later_refuses _ _ _ c.in_ok-read_list-5.ensures.value.0 (first_refuses _ _ _ c.in_err-read_list-6.ensures.value))))))))

pub returns-in_err-read_list-7-clause-value : goal.returns-in_err-read_list-7-clause-value
unfolding fault_of
returns-in_err-read_list-7-clause-value c =
    let r = c.from_residual-in_err-read_list-7 in
    let p = err_from_is_err_and r.result r.ensures.1 in
    rw (p.1, p.2) (later_refuses _ _ _ c.in_ok-enter.ensures.0 (later_refuses _ _ _ c.in_ok-name_at.ensures.value.0 (later_refuses _ _ _ c.in_ok-read_list.ensures.value.0 (later_refuses _ _ _ c.in_ok-read_list-2.ensures.value.0 (later_refuses _ _ _ c.in_ok-read_list-3.ensures.value.0 (later_refuses _ _ _ c.in_ok-read_list-4.ensures.value.0 (later_refuses _ _ _ c.in_ok-read_list-5.ensures.value.0 (later_refuses _ _ _ c.in_ok-read_list-6.ensures.value.0 (first_refuses _ _ _ c.in_err-read_list-7.ensures.value)))))))))

pub returns-in_err-read_middleware-clause-value : goal.returns-in_err-read_middleware-clause-value
unfolding fault_of
returns-in_err-read_middleware-clause-value c =
    let r = c.from_residual-in_err-read_middleware in
    let p = err_from_is_err_and r.result r.ensures.1 in
    rw (p.1, p.2) (later_refuses _ _ _ c.in_ok-enter.ensures.0 (later_refuses _ _ _ c.in_ok-name_at.ensures.value.0 (later_refuses _ _ _ c.in_ok-read_list.ensures.value.0 (later_refuses _ _ _ c.in_ok-read_list-2.ensures.value.0 (later_refuses _ _ _ c.in_ok-read_list-3.ensures.value.0 (later_refuses _ _ _ c.in_ok-read_list-4.ensures.value.0 (later_refuses _ _ _ c.in_ok-read_list-5.ensures.value.0 (later_refuses _ _ _ c.in_ok-read_list-6.ensures.value.0 (later_refuses _ _ _ c.in_ok-read_list-7.ensures.value.0 (first_refuses _ _ _ c.in_err-read_middleware.ensures.value))))))))))

pub invariant_of-result : goal.invariant_of-result
invariant_of-result c =
    are_rules _ c.in_ok-name_at.ensures.rules
    (c.in_ok-read_list.ensures.rules, c.in_ok-read_list-2.ensures.rules, c.in_ok-read_list-3.ensures.rules, c.in_ok-read_list-4.ensures.rules, c.in_ok-read_list-5.ensures.rules, c.in_ok-read_list-6.ensures.rules, c.in_ok-read_list-7.ensures.rules)
    c.in_ok-read_middleware.ensures.rules

pub returns-clause-value : goal.returns-clause-value
returns-clause-value c =
    let path = c.args.at.now in
    let d = view c.args.root.now in (
      no_fault path d c.in_ok-enter.ensures.0 c.in_ok-name_at.ensures.value.0
          (c.in_ok-read_list.ensures.value.0, c.in_ok-read_list-2.ensures.value.0, c.in_ok-read_list-3.ensures.value.0, c.in_ok-read_list-4.ensures.value.0, c.in_ok-read_list-5.ensures.value.0, c.in_ok-read_list-6.ensures.value.0, c.in_ok-read_list-7.ensures.value.0)
          c.in_ok-read_middleware.ensures.value.0,
      says_all path d _ _ _ _ _ _ _ _ _ c.in_ok-name_at.ensures.value.1
          (c.in_ok-read_list.ensures.value.1, c.in_ok-read_list-2.ensures.value.1, c.in_ok-read_list-3.ensures.value.1, c.in_ok-read_list-4.ensures.value.1, c.in_ok-read_list-5.ensures.value.1, c.in_ok-read_list-6.ensures.value.1, c.in_ok-read_list-7.ensures.value.1)
          c.in_ok-read_middleware.ensures.value.1,
    )

pub returns-clause-noted : goal.returns-clause-noted
unfolding unused_keys
returns-clause-noted c =
    rw (c.in_ok-read_middleware.ensures.noted, c.in_ok-read_list-7.ensures.noted, c.in_ok-read_list-6.ensures.noted, c.in_ok-read_list-5.ensures.noted, c.in_ok-read_list-4.ensures.noted, c.in_ok-read_list-3.ensures.noted, c.in_ok-read_list-2.ensures.noted, c.in_ok-read_list.ensures.noted, c.in_ok-enter.ensures.1)
    (in_order _ c.args.at.now (view c.args.root.now))
