use Rattle.std.proofs.Common.{◌≡◌, ◌<◌, ◌^◌, ◌∙◌, [], ◌∷◌, ◌++◌, ap, sym, subst, Option, List, ℕ, slice_index_or, rules}
use Rattle.std.specs.Option.{option_map, option_or, option_copied}
use Rattle.std.proofs.lemmas.List.{get_or_read_under}
use Rattle.sk_msg.specs.declared.entry.Entry.{Entry}
use Rattle.sk_msg.specs.declared.entry.Entry.TheVariants.{Got}
use Rattle.sk_law.specs.Links.{comes_in_order}
use Rattle.sk_law.specs.declared.setup.Setup.{Setup}
use Rattle.sk_law.specs.declared.line.Line.{Line}
use Rattle.sk_law.specs.Kept.{Kept}
use Rattle.sk_law.specs.Tied.{all_of, no_line, Needed, with_required, with_state, limit_after}
use Rattle.sk_law.proofs.Keeping.{served-got, next-is}
use Rattle.sk_law.proofs.Hearing.{tied-got, few-got, numbers-of, own-of, on_err, kept}
use Rattle.sk_law.proofs.journal.Journal.add_got.Goals as goal

pub hear-requires-clause-few : goal.hear-requires-clause-few
hear-requires-clause-few c =
    let small : c.args.number < all_of c.self.inside.setup c.self.inside.memory.tools = subst (λ (v : Kept). c.args.number < all_of v.setup v.past.memory.tools) (sym c.self.view_is) c.requires in
    few-got c.args.number (2 ^ 63) c.self.invariant.tied small (search rules)

pub hear-requires-clause-next : goal.hear-requires-clause-next
hear-requires-clause-next c = λ e.
    next-is c.args.number c.args.message c.self.invariant.served c.content-content.ensures.rules
    (sym (subst (λ (k : Kept). c.comes_in_order-orderly.result ≡ comes_in_order k.setup k.past c.args.number c.args.message) (sym c.self.view_is) c.comes_in_order-orderly.ensures) ∙ e)

pub returns-in_err-hear-clause-err : goal.returns-in_err-hear-clause-err
returns-in_err-hear-clause-err c = on_err c.from_residual-in_err-hear.result
    (ap (λ (es : List Entry). kept c.self.inside.setup c.self.inside.memory c.self.inside.out.items es) c.in_ok-reserve.ensures.items ∙ c.self.view_is)

pub invariant_of-self-2 : goal.invariant_of-self-2
invariant_of-self-2 c =
    let S : Setup = c.self.inside.setup in
    let small : c.args.number < all_of S c.self.inside.memory.tools = subst (λ (v : Kept). c.args.number < all_of v.setup v.past.memory.tools) (sym c.self.view_is) c.requires in
    let line : c.index.result.now ≡ slice_index_or c.self.inside.lines.items c.args.number no_line =
    get_or_read_under c.self.inside.lines.items c.args.number _ c.index.result.now no_line c.index.ensures small (sym c.self.invariant.tied.all_lines) in
    let pushed = rw c.unwrap.ensures at c.push.ensures.items in
    let first : Option (List (List ℕ)) = option_copied c.first_in-first.result in
    record {
      tied = tied-got c.journals_go_by_entries.ensures c.comes_in_order-orderly.result c.args.number c.args.message first _ _ _ _ _ _ c.self.invariant.tied
          (pushed ∙ ap (λ (es : List Entry). es ++ Got c.args.number c.args.message ∷ []) c.in_ok-reserve.ensures.items)
          small
          (subst (λ (k : Kept). c.comes_in_order-orderly.result ≡ comes_in_order k.setup k.past c.args.number c.args.message) (sym c.self.view_is) c.comes_in_order-orderly.ensures)
          c.first_in-first.ensures
          c.after_got-tally.ensures
          c.in_ok-hear.ensures.ok
          (c.see.ensures ∙ ap (with_state S c.comes_in_order-orderly.result c.args.number c.args.message)
          (c.require.ensures.view ∙ ap (λ numbers. with_required numbers c.self.inside.view) (ap (λ needed. option_map (λ (n : Needed). n.numbers) needed) c.in_ok-required.ensures ∙ numbers-of S first)))
          (c.or-self-inside.ensures ∙ ap (λ own. option_or own c.self.inside.awaited) (c.require.ensures.own ∙ ap (λ needed. option_map (λ (n : Needed). n.own) needed) c.in_ok-required.ensures ∙ own-of S first))
          (c.limit_after-limit.ensures ∙ ap (λ (l : Line). limit_after S c.comes_in_order-orderly.result c.args.number l.said.coordinated c.args.message c.self.inside.limit) line);
      served = served-got c.journals_go_by_entries.ensures c.comes_in_order-orderly.result c.args.number c.args.message _ _ c.self.invariant.served
          (pushed ∙ ap (λ (es : List Entry). es ++ Got c.args.number c.args.message ∷ []) c.in_ok-reserve.ensures.items)
          (subst (λ (k : Kept). c.comes_in_order-orderly.result ≡ comes_in_order k.setup k.past c.args.number c.args.message) (sym c.self.view_is) c.comes_in_order-orderly.ensures)
          c.in_ok-hear.ensures.indexed;
    }
