use Rattle.std.proofs.Common.{◌≡◌, ◌<◌, ◌+◌, ◌++◌, ◌∷◌, [], ℕ, List, length, ◌∙◌, ap, sym, subst, take, drop, get_or}
use Rattle.std.proofs.lemmas.List.{take_more, take-append-drop}
use Rattle.sk_msg.specs.declared.content.Content.{Content}
use Rattle.sk_pipe.specs.Hearing.{IsHeardAs}
use Rattle.sk_pipe.proofs.HearingLaws.{heard_step, heard_last, NotesTo, not_some, some_of}
use Rattle.sk_pipe.proofs.peer.Peer.hear.Goals as goal

-- one message more was heard
one_more : (found : List Content) (i : ℕ) (m : Content) → i < length found → m ≡ get_or found i m → take (i + 1) found ≡ take i found ++ m ∷ []
one_more found i m below is = take_more found i m below ∙ ap (λ (x : Content). take i found ++ x ∷ []) (sym is)

pub returns-then-is_some-clause-hears : goal.returns-then-is_some-clause-hears
returns-then-is_some-clause-hears c = λ before h.
    let i = c.loop-message.message-index in
    let found = c.args.found.now in
    let m = c.message-item.result in
    let old = c.loop-message.self in
    let new = c.note.new.self in
    let notes : NotesTo old m new = subst (λ (x : Content). NotesTo old x new) c.content.ensures.value c.note.ensures.hears in
    let now = heard_step before (take i found) m old new c.loop-message.invariant.open_still (c.loop-message.invariant.so_far before h) notes in
    let more : IsHeardAs before (take (i + 1) found) new = subst (λ (l : List Content). IsHeardAs before l new) (sym (one_more found i m c.loop-message-test.true c.message-item.is)) now in
    let ended = some_of new.ending (c.if-is_some.ensures {u = tt}) in
    subst (λ (l : List Content). IsHeardAs before l new) (take-append-drop (i + 1) found)
    (heard_last before (take (i + 1) found) (drop (i + 1) found) new ended.0 ended.1 more)

pub loop-message-preserved : goal.loop-message-preserved
loop-message-preserved c =
    let i = c.loop-message.message-index in
    let found = c.args.found.now in
    let m = c.message-item.result in
    let old = c.loop-message.self in
    let new = c.note.new.self in
    let notes : NotesTo old m new = subst (λ (x : Content). NotesTo old x new) c.content.ensures.value c.note.ensures.hears in
    let plan = c.loop-message.invariant.plan in
    let kept = c.note.ensures.plan in
    record {
      open_still = not_some new.ending (c.if-is_some.ensures {u = tt});
      plan = record { step = kept.step ∙ plan.step; duration = kept.duration ∙ plan.duration; total = kept.total ∙ plan.total };
      so_far = λ before h.
          subst (λ (l : List Content). IsHeardAs before l new) (sym (one_more found i m c.loop-message-test.true c.message-item.is))
          (heard_step before (take i found) m old new c.loop-message.invariant.open_still (c.loop-message.invariant.so_far before h) notes);
    }
