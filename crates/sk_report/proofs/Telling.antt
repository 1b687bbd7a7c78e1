-- Lines and counts, with one step or one journal more.
use Rattle.std.specs.Prelude.{◌≡◌, refl, ℕ, ◌+◌, ◌<◌, ◌≤◌, cond, List, [], ◌∷◌, ◌++◌, length, map, take, drop, get_or, suc, Option, Some, None, unwrap_or, option_map}
use Rattle.std.specs.Borrow.{Bor}
use Rattle.std.specs.List.{fold, sum_by, count_by, filter_map}
use Rattle.std.proofs.Common.{◌∙◌, ap, ap₂, sym, subst, subst₂, arith, append-nil, append_assoc, add-zero, length-append}
use Rattle.std.proofs.lemmas.List.{length_push, map-append, drop_more}
use Rattle.std.proofs.lemmas.List.Sums.{sum_by_push}
use Rattle.sk_msg.specs.declared.content.Content.{Content}
use Rattle.sk_msg.specs.declared.entry.Entry.{Entry}
use Rattle.sk_law.specs.declared.memory.Begun.{Begun}
use Rattle.sk_law.specs.declared.visible.Visible.{Visible}
use Rattle.sk_law.specs.Readings.{begun_after, stamp}
use Rattle.sk_law.specs.Script.{Delivery, Step, delivered, sent_in}
use Rattle.sk_law.specs.Told.{heard}
use Rattle.sk_law.specs.Visible.{visible}
use Rattle.sk_report.specs.declared.totals.Totals.{Totals}
use Rattle.sk_report.specs.Contents.{is_shown}
use Rattle.sk_report.specs.Lines.{participant_line, step_text, step_lines, steps_lines, participant_lines, participants_lines}
use Rattle.sk_report.specs.Names.{PartNames, names_at}
use Rattle.sk_report.specs.Totals.{seen_in, sent_in_step, seen_of, sent_of, CountSteps}
use Rattle.sk_report.specs.Walks.{steps_among}
use Rattle.sk_report.proofs.Taking.{taken}
use Rattle.sk_report.proofs.Walking.{step_at, begins, begins_none}

-- the last of so many steps
pub lines_more : (names : PartNames) (first : ℕ) (steps : List Step) (step : Step) →
    steps_lines names first (steps ++ step ∷ []) ≡ steps_lines names first steps ++ step_lines names (first + length steps) step
lines_more names first [] step = append-nil (step_lines names first step) ∙ ap (λ n. step_lines names n step) (sym (add-zero first))
lines_more names first (one ∷ steps) step =
    let n : first + 1 + length steps ≡ first + suc (length steps) = omega arith in
    ap (λ l. step_lines names first one ++ l) (lines_more names (first + 1) steps step ∙ ap (λ k. steps_lines names (first + 1) steps ++ step_lines names k step) n)
    ∙ sym (append_assoc (step_lines names first one) (steps_lines names (first + 1) steps) (step_lines names (first + suc (length steps)) step))

-- none yet
pub counted_none : (totals : Totals) → CountSteps [] totals totals
counted_none totals = record { steps = sym (add-zero totals.steps); seen = sym (add-zero totals.seen); sent = sym (add-zero totals.sent) }

one_more : (f : Step → ℕ) (steps : List Step) (step : Step) (old now new : ℕ) → now ≡ old + sum_by f steps → new ≡ now + f step → new ≡ old + sum_by f (steps ++ step ∷ [])
one_more f steps step old now new h more =
    let joined = sum_by_push f steps step in
    omega (arith, h, more, joined)

-- one step more
pub counted_more : (steps : List Step) (step : Step) (old now new : Totals) → CountSteps steps old now →
    new.steps ≡ now.steps + 1 → new.seen ≡ now.seen + seen_in step → new.sent ≡ now.sent + sent_in_step step → CountSteps (steps ++ step ∷ []) old new
counted_more steps step old now new h a b c =
    let joined = length-append steps (step ∷ []) in
    record {
      steps = omega (arith, h.steps, a, joined);
      seen = one_more seen_in steps step old.seen now.seen new.seen h.seen b;
      sent = one_more sent_in_step steps step old.sent now.sent new.sent h.sent c;
    }

-- what a step sees, counted before its places are left out
count_delivered : (items : List Visible) (n : ℕ) →
    fold (λ (k : ℕ) (item : Visible). k + cond (is_shown item.message) 1 0) n items ≡ fold (λ (k : ℕ) (item : Delivery). k + cond (is_shown item.message) 1 0) n (map delivered items)
count_delivered [] n = refl
count_delivered (item ∷ items) n = count_delivered items (n + cond (is_shown item.message) 1 0)

-- the steps are counted too that begin with one entry more, where a step begins
pub counted_some : (es before : List Entry) (e : Entry) (begun : Begun) (old now new added : Totals) (seen : List Visible) (sent : List Content) →
    begun_after None e ≡ Some begun → seen ≡ visible (heard before) (stamp before) begun.time → sent ≡ filter_map (sent_in begun.number) es →
    CountSteps (steps_among es before) old now → new ≡ added → added.steps ≡ now.steps + 1 → added.seen ≡ now.seen + count_by (λ item. is_shown item.message) seen →
    added.sent ≡ now.sent + count_by is_shown sent → CountSteps (steps_among es (before ++ e ∷ [])) old new
counted_some es before e begun old now new added seen sent is seen_is sent_is h same a b c =
    subst₂ (λ (l : List Step) (t : Totals). CountSteps l old t) (sym (begins es before e begun is)) (sym same)
    (counted_more (steps_among es before) (step_at es before begun) old now added h a
    (b ∙ ap (λ l. now.seen + count_by (λ (item : Visible). is_shown item.message) l) seen_is ∙ ap (λ n. now.seen + n) (count_delivered (visible (heard before) (stamp before) begun.time) 0))
    (c ∙ ap (λ l. now.sent + count_by is_shown l) sent_is))

-- where none begins
pub counted_same : (es before : List Entry) (e : Entry) (old now new : Totals) → begun_after None e ≡ None → CountSteps (steps_among es before) old now → new ≡ now →
    CountSteps (steps_among es (before ++ e ∷ [])) old new
counted_same es before e old now new is h same = subst₂ (λ (l : List Step) (t : Totals). CountSteps l old t) (sym (begins_none es before e is)) (sym same) h

-- the steps that begin among these entries are written behind this text, and numbered
abbrev pub IsTold : PartNames → List Entry → List Entry → List ℕ → List ℕ → ℕ → ℕ → Type 0
IsTold names es before start text number index =
    (text ≡ start ++ steps_lines names 1 (steps_among es before)) × (number ≡ length (steps_among es before)) × (number ≤ index)

-- with one entry more, where a step begins
pub told_some : (names : PartNames) (es before : List Entry) (e : Entry) (begun : Begun) (start text new : List ℕ) (number next index : ℕ) (seen : List Visible) (sent : List Content) →
    begun_after None e ≡ Some begun → seen ≡ visible (heard before) (stamp before) begun.time → sent ≡ filter_map (sent_in begun.number) es →
    text ≡ start ++ steps_lines names 1 (steps_among es before) → number ≡ length (steps_among es before) → number ≤ index →
    next ≡ number + 1 → new ≡ text ++ step_text names (number + 1) begun.time (map delivered seen) sent → IsTold names es (before ++ e ∷ []) start new next (index + 1)
told_some names es before e begun start text new number next index seen sent is seen_is sent_is text_is number_is few next_is new_is =
    let first = steps_among es before in
    let n : number + 1 ≡ 1 + length first = omega (arith, number_is) in
    let longer = length_push first (step_at es before begun) in (
      new_is
          ∙ ap₂ (λ (l : List Visible) (m : List Content). text ++ step_text names (number + 1) begun.time (map delivered l) m) seen_is sent_is
          ∙ ap₂ (λ (l : List ℕ) (k : ℕ). l ++ step_lines names k (step_at es before begun)) text_is n
          ∙ append_assoc start (steps_lines names 1 first) (step_lines names (1 + length first) (step_at es before begun))
          ∙ ap (λ l. start ++ l) (sym (lines_more names 1 first (step_at es before begun)))
          ∙ ap (λ l. start ++ steps_lines names 1 l) (sym (begins es before e begun is)),
      next_is ∙ ap (λ k. k + 1) number_is ∙ sym longer ∙ ap (λ (l : List Step). length l) (sym (begins es before e begun is)),
      omega (arith, next_is, few),
    )

-- where none begins
pub told_same : (names : PartNames) (es before : List Entry) (e : Entry) (start text new : List ℕ) (number next index : ℕ) → begun_after None e ≡ None →
    text ≡ start ++ steps_lines names 1 (steps_among es before) → number ≡ length (steps_among es before) → number ≤ index → next ≡ number → new ≡ text →
    IsTold names es (before ++ e ∷ []) start new next (index + 1)
told_same names es before e start text new number next index is text_is number_is few next_is new_is =
    let same = begins_none es before e is in (
      new_is ∙ text_is ∙ ap (λ l. start ++ steps_lines names 1 l) (sym same),
      next_is ∙ number_is ∙ ap (λ (l : List Step). length l) (sym same),
      omega (arith, next_is, few),
    )

-- ## Journals

-- so many steps of participants are counted
pub record IsCount (all : List (List Step)) (totals : Totals) : Type 0 where
  pub steps : totals.steps ≡ sum_by length all
  pub seen : totals.seen ≡ sum_by seen_of all
  pub sent : totals.sent ≡ sum_by sent_of all

part_more : (f : List Step → ℕ) (all : List (List Step)) (part : List Step) (old new : ℕ) → old ≡ sum_by f all → new ≡ old + f part → new ≡ sum_by f (all ++ part ∷ [])
part_more f all part old new h more =
    let joined = sum_by_push f all part in
    omega (arith, h, more, joined)

-- those of one participant more
pub count_more : (all : List (List Step)) (part : List Step) (old new : Totals) → IsCount all old → CountSteps part old new → IsCount (all ++ part ∷ []) new
count_more all part old new h more = record {
  steps = part_more length all part old.steps new.steps h.steps more.steps;
  seen = part_more seen_of all part old.seen new.seen h.seen more.seen;
  sent = part_more sent_of all part old.sent new.sent h.sent more.sent;
}

-- those of the journals so far, with one more
pub journal_more : {X : Type 0} (f : X → List Step) (journals : List X) (i : ℕ) (journal : X) (old new : Totals) → i < length journals → journal ≡ get_or journals i journal →
    IsCount (map f (take i journals)) old → CountSteps (f journal) old new → IsCount (map f (take (i + 1) journals)) new
journal_more f journals i journal old new lt is h more =
    subst (λ l. IsCount l new) (sym (ap (map f) (taken journals i journal lt is) ∙ map-append f (take i journals) (journal ∷ []))) (count_more (map f (take i journals)) (f journal) old new h more)

to_come : {X : Type 0} (f : X → List Step) (parts : List PartNames) (journals : List X) (i : ℕ) (journal : X) → i < length journals → journal ≡ get_or journals i journal →
    participants_lines parts i (map f (drop i journals)) ≡ participant_lines (names_at parts i) i (f journal) ++ participants_lines parts (i + 1) (map f (drop (i + 1) journals))
to_come f parts journals i journal lt is =
    ap (λ l. participants_lines parts i (map f l)) (drop_more journals i journal lt ∙ ap (λ x. x ∷ drop (i + 1) journals) (sym is))

-- the text so far, and the lines of the journals that are still to come, with one journal more written
pub text_more : {X : Type 0} (f : X → List Step) (parts : List PartNames) (journals : List X) (i : ℕ) (journal : X) (names : PartNames) (old line new whole : List ℕ) →
    i < length journals → journal ≡ get_or journals i journal → names ≡ names_at parts i → line ≡ participant_line i names.name → new ≡ (old ++ line) ++ steps_lines names 1 (f journal) →
    old ++ participants_lines parts i (map f (drop i journals)) ≡ whole → new ++ participants_lines parts (i + 1) (map f (drop (i + 1) journals)) ≡ whole
text_more f parts journals i journal names old line new whole lt is names_is line_is new_is h =
    let rest = participants_lines parts (i + 1) (map f (drop (i + 1) journals)) in
    ap (λ l. l ++ rest) (new_is ∙ append_assoc old line (steps_lines names 1 (f journal)) ∙ ap (λ l. old ++ l)
    (ap (λ l. l ++ steps_lines names 1 (f journal)) line_is ∙ ap (λ n. participant_lines n i (f journal)) names_is))
    ∙ append_assoc old (participant_lines (names_at parts i) i (f journal)) rest
    ∙ ap (λ l. old ++ l) (sym (to_come f parts journals i journal lt is))
    ∙ h

-- what stands behind a reference that is found, or else behind another
pub behind : {X : Type 0} (o : Option (Bor X)) (other : Bor X) → (unwrap_or o other).now ≡ unwrap_or (option_map (λ x. x.now) o) other.now
behind None other = refl
behind (Some one) other = refl
