use Rattle.std.proofs.Common.{◌≡◌, ◌<◌, ◌+◌, ◌^◌, ◌∙◌, ◌∷◌, ap, sym, subst, Some, length, slice_get, slice_index_or, arith, rules}
use Rattle.std.specs.Prelude.{slice_set}
use Rattle.std.proofs.lemmas.List.{get_or_read_under}
use Rattle.sk_law.specs.Readings.{put}
use Rattle.sk_law.specs.declared.line.Line.{Line}
use Rattle.sk_law.specs.Kept.{Kept}
use Rattle.sk_law.specs.Tied.{no_line, all_of, Tied}
use Rattle.sk_law.proofs.TakingOut.{tied-out, waits-next, waits-none, few-put, on_none}
use Rattle.sk_law.proofs.journal.Journal.take_out.Goals as goal

pub returns-in_err-message-clause-nothing : goal.returns-in_err-message-clause-nothing
returns-in_err-message-clause-nothing c = on_none c.from_residual-in_err-message.result
    (subst (λ (k : Kept). c.args.number < length k.out → slice_index_or k.out c.args.number 0 ≡ length (put k.past.journal c.args.number)) c.self.view_is
    (λ lt.
    let small : c.args.number < all_of c.self.inside.setup c.self.inside.memory.tools = subst (λ n. c.args.number < n) c.self.invariant.tied.all_out lt in
    let line : c.in_ok-line.line.now ≡ slice_index_or c.self.inside.lines.items c.args.number no_line =
    get_or_read_under c.self.inside.lines.items c.args.number _ c.in_ok-line.line.now no_line c.in_ok-line.ensures.value small (sym c.self.invariant.tied.all_lines) in
    waits-none _ (put c.self.inside.entries.items c.args.number) (c.self.invariant.tied.within c.args.number small)
    (sym (ap (λ (l : Line). l.waiting) (line ∙ c.self.invariant.tied.line c.args.number small)) ∙ c.in_err-message.ensures.none)))

pub overflow_add-index_mut : goal.overflow_add-index_mut
overflow_add-index_mut c =
    let small : c.args.number < length c.self.inside.out.items = search rules in
    let under : c.args.number < all_of c.self.inside.setup c.self.inside.memory.tools = subst (λ n. c.args.number < n) c.self.invariant.tied.all_out small in
    let k : c.index_mut.result.now ≡ slice_index_or c.self.inside.out.items c.args.number 0 =
    get_or_read_under c.self.inside.out.items c.args.number _ c.index_mut.result.now 0 c.index_mut.ensures.value under (sym c.self.invariant.tied.all_out) in
    let le = c.self.invariant.tied.within c.args.number under in
    let few = few-put c.self.inside.entries.items c.args.number in
    let all : length c.self.inside.entries.items < 2 ^ 63 = search rules in
    omega arith

pub invariant_of-self-2 : goal.invariant_of-self-2
invariant_of-self-2 c =
    let small : c.args.number < length c.self.inside.out.items = search rules in
    let under : c.args.number < all_of c.self.inside.setup c.self.inside.memory.tools = subst (λ n. c.args.number < n) c.self.invariant.tied.all_out small in
    let k : c.index_mut.result.now ≡ slice_index_or c.self.inside.out.items c.args.number 0 =
    get_or_read_under c.self.inside.out.items c.args.number _ c.index_mut.result.now 0 c.index_mut.ensures.value under (sym c.self.invariant.tied.all_out) in
    let line : c.in_ok-line.line.now ≡ slice_index_or c.self.inside.lines.items c.args.number no_line =
    get_or_read_under c.self.inside.lines.items c.args.number _ c.in_ok-line.line.now no_line c.in_ok-line.ensures.value under (sym c.self.invariant.tied.all_lines) in
    let first : (slice_index_or c.self.inside.lines.items c.args.number no_line).waiting ≡ c.in_ok-message.message ∷ c.pop.new.self = sym (ap (λ (l : Line). l.waiting) line) ∙ c.in_ok-message.ensures.some in
    record {
      tied = subst (λ n. Tied c.self.inside.setup c.self.inside.memory.tools (slice_set c.self.inside.out.items c.args.number (n + 1)) c.self.inside.entries.items c.self.inside.tally
          (slice_set c.self.inside.lines.items c.args.number (record c.in_ok-line.line.now { waiting = c.pop.new.self })) c.self.inside.view c.self.inside.awaited c.self.inside.limit) (sym k)
          (subst (λ (l : Line). Tied c.self.inside.setup c.self.inside.memory.tools (slice_set c.self.inside.out.items c.args.number (slice_index_or c.self.inside.out.items c.args.number 0 + 1)) c.self.inside.entries.items c.self.inside.tally
          (slice_set c.self.inside.lines.items c.args.number (record l { waiting = c.pop.new.self })) c.self.inside.view c.self.inside.awaited c.self.inside.limit) (sym line)
          (tied-out c.args.number c.in_ok-message.message c.pop.new.self c.self.invariant.tied under first));
      served = c.self.invariant.served;
    }

pub returns-clause-some : goal.returns-clause-some
returns-clause-some c =
    let small : c.args.number < length c.self.inside.out.items = search rules in
    let under : c.args.number < all_of c.self.inside.setup c.self.inside.memory.tools = subst (λ n. c.args.number < n) c.self.invariant.tied.all_out small in
    let line : c.in_ok-line.line.now ≡ slice_index_or c.self.inside.lines.items c.args.number no_line =
    get_or_read_under c.self.inside.lines.items c.args.number _ c.in_ok-line.line.now no_line c.in_ok-line.ensures.value under (sym c.self.invariant.tied.all_lines) in
    subst (λ (v : Kept). slice_get (put v.past.journal c.args.number) (slice_index_or v.out c.args.number 0) ≡ Some c.in_ok-message.message) c.self.view_is
    (waits-next _ (put c.self.inside.entries.items c.args.number) c.pop.new.self c.in_ok-message.message
    (sym (ap (λ (l : Line). l.waiting) (line ∙ c.self.invariant.tied.line c.args.number under)) ∙ c.in_ok-message.ensures.some))

pub returns-clause-there : goal.returns-clause-there
returns-clause-there c =
    let small : c.args.number < length c.self.inside.out.items = search rules in
    subst (λ (v : Kept). c.args.number < length v.out) c.self.view_is small
