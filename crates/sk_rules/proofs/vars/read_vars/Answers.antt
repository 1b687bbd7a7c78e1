use Rattle.std.proofs.Common.{◌≤◌, arith, ◌∙◌, sym, rules}
use Rattle.std.proofs.lemmas.Result.{err_from_is_err_and}
use Rattle.serde_json.proofs.Views.{members_len-members_view}
use Rattle.serde_json.specs.Events.{members_len}
use Rattle.serde_json.specs.View.{members_view}
use Rattle.sk_rules.proofs.VarLaws.{vars_too_many, vars_are, vars_rules, keys_sorted}
use Rattle.sk_rules.proofs.vars.read_vars.Goals as goal

pub returns-then-len-gt-MOST_VARIABLES-clause-value : goal.returns-then-len-gt-MOST_VARIABLES-clause-value
returns-then-len-gt-MOST_VARIABLES-clause-value c =
    let more = c.if-len-gt-MOST_VARIABLES.true in
    let many = vars_too_many c.args.at.now _ _ (sym c.in-Some.ensures) (omega (arith, more, c.len.ensures.len, members_len-members_view c.in-Some.members.now.entries)) in
    search rules

pub returns-in_err-vars-clause-value : goal.returns-in_err-vars-clause-value
returns-in_err-vars-clause-value c =
    let r = c.from_residual in
    let p = err_from_is_err_and r.result r.ensures.1 in
    let few : members_len (members_view c.in-Some.members.now.entries) ≤ 64 = omega (arith, c.if-len-gt-MOST_VARIABLES.false, c.len.ensures.len, members_len-members_view c.in-Some.members.now.entries) in
    let is = vars_are c.args.at.now _ _ (sym c.in-Some.ensures) few in
    rw (p.1, p.2, is) c.in_err-vars.ensures

pub invariant_of-result : goal.invariant_of-result
invariant_of-result c =
    let few : members_len (members_view c.in-Some.members.now.entries) ≤ 64 = omega (arith, c.if-len-gt-MOST_VARIABLES.false, c.len.ensures.len, members_len-members_view c.in-Some.members.now.entries) in
    vars_rules c.args.at.now _ _ c.in_ok-vars.ensures few (keys_sorted _ c.len.ensures.ordered)

pub returns-clause-value : goal.returns-clause-value
returns-clause-value c =
    let few : members_len (members_view c.in-Some.members.now.entries) ≤ 64 = omega (arith, c.if-len-gt-MOST_VARIABLES.false, c.len.ensures.len, members_len-members_view c.in-Some.members.now.entries) in
    vars_are c.args.at.now _ _ (sym c.in-Some.ensures) few ∙ c.in_ok-vars.ensures

pub returns-clause-rules : goal.returns-clause-rules
returns-clause-rules c =
    let few : members_len (members_view c.in-Some.members.now.entries) ≤ 64 = omega (arith, c.if-len-gt-MOST_VARIABLES.false, c.len.ensures.len, members_len-members_view c.in-Some.members.now.entries) in
    vars_rules c.args.at.now _ _ c.in_ok-vars.ensures few (keys_sorted _ c.len.ensures.ordered)
