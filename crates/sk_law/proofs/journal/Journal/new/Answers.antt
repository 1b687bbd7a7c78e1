use Rattle.std.proofs.Common.{◌≡◌, ◌∙◌, ℕ, List, [], None, Some, ap, sym, subst, replicate, length, Option}
use Rattle.std.specs.Prelude.{slice_set}
use Rattle.std.specs.Option.{option_map}
use Rattle.sk_msg.specs.declared.entry.Entry.{Entry}
use Rattle.sk_msg.specs.declared.state.State.TheVariants.{Invalid}
use Rattle.sk_system.specs.View.{View}
use Rattle.sk_law.specs.declared.setup.Setup.{Setup}
use Rattle.sk_pubsub.specs.Announcing.{nothing_announced}
use Rattle.sk_law.specs.Services.{new_states}
use Rattle.sk_law.specs.Tied.{AllTied, Needed, no_line, needed_of, with_required}
use Rattle.sk_law.proofs.Starting.{tied-new, served-new}
use Rattle.sk_law.proofs.Hearing.{numbers-of, own-of}
use Rattle.sk_law.proofs.journal.Journal.new.Goals as goal

pub invariant_of-result : goal.invariant_of-result
invariant_of-result c =
    let S : Setup = c.args.setup in
    let n : c.as_slice-count.result.now ≡ S.names = c.as_slice-count.ensures in
    let tools : c.new-3.result ≡ [] = c.new-3.ensures ∙ c.new-2.ensures.items in
    let view : Option (List (Option ℕ)) → List (List ℕ) → View = λ numbers names. with_required numbers (record { required = None; known = slice_set (replicate (length names) None) S.number (Some Invalid) }) in
    let need : c.in_ok-required.required ≡ option_map (needed_of S) S.required = c.in_ok-required.ensures ∙ ap (option_map (needed_of S)) c.as_ref.ensures.value in
    let services : c.into_vec.result.items ≡ S.services = c.into_vec.ensures ∙ c.in_ok-own.ensures in
    subst (λ (t : List (List ℕ)). AllTied S t c.in_ok-services.services c.in_ok-out.out.items c.new.result.items c.start.result c.in_ok-lines.lines.items c.new-4.result c.require-awaited.new.view c.require-awaited.result S.duration) (sym tools)
    (subst (λ (es : List Entry). AllTied S [] c.in_ok-services.services c.in_ok-out.out.items es c.start.result c.in_ok-lines.lines.items c.new-4.result c.require-awaited.new.view c.require-awaited.result S.duration) (sym c.new.ensures.items)
    (record {
      tied = tied-new S c.start.result c.in_ok-lines.lines.items c.in_ok-out.out.items c.require-awaited.new.view c.require-awaited.result c.requires.own c.requires.few c.requires.size c.requires.duration c.start.ensures
          (c.in_ok-lines.ensures ∙ ap (λ (xs : List (List ℕ)). replicate (length xs) no_line) n)
          (c.in_ok-out.ensures ∙ ap (λ (xs : List (List ℕ)). replicate (length xs) 0) n)
          (c.require-awaited.ensures.view ∙ ap (with_required (option_map (λ (x : Needed). x.numbers) c.in_ok-required.required)) c.in_ok-view.ensures
          ∙ ap (view (option_map (λ (x : Needed). x.numbers) c.in_ok-required.required)) n
          ∙ ap (λ numbers. view numbers S.names) (ap (λ needed. option_map (λ (x : Needed). x.numbers) needed) need ∙ numbers-of S S.required))
          (c.require-awaited.ensures.own ∙ ap (λ needed. option_map (λ (x : Needed). x.own) needed) need ∙ own-of S S.required);
      served = served-new S c.in_ok-services.services c.new-4.result (c.new-4.ensures ∙ ap nothing_announced services)
          (c.in_ok-services.ensures ∙ ap new_states c.as_slice.ensures);
    }))
