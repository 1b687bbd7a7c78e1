-- The block of a state in its parts.
use Rattle.std.specs.Prelude.{◌≡◌, refl, ℕ, Bool, List}
use Rattle.std.proofs.Common.{ap, ◌∙◌}
use Rattle.sk_msg.specs.declared.content.Content.{Content}
use Rattle.sk_msg.specs.declared.content.Content.TheVariants as contents
use Rattle.sk_msg.specs.declared.state.State.{State}
use Rattle.sk_msg.specs.declared.entry.Entry.TheVariants.{State as Entered}
use Rattle.sk_law.specs.declared.setup.Setup.{Setup}
use Rattle.sk_law.specs.Past.{Past, add, put_each}
use Rattle.sk_law.specs.Links.{told}
use Rattle.sk_law.specs.Growing.{Adds, BlocksAdd}
use Rattle.sk_law.specs.Blocks.{judge_system, is_first_run, behind, enter_only, enter_until}
use Rattle.sk_law.specs.Kept.{Kept}
use Rattle.sk_node.specs.Lists.{Lists, Whole, Part}
use Rattle.sk_node.proofs.Cuts.{adds_one, adds_puts, adds_both}
use Rattle.sk_node.proofs.Wholes.{whole_is, whole_then, part_is, part_first, part_then}

-- ## State, Status and System

-- the state with its Puts
abbrev shown : State → List ℕ → Content → Past → Past
shown to numbers m past = put_each numbers m (add (Entered to) past)

only_is : (S : Setup) (to : State) (until : ℕ) (past : Past) (numbers : List ℕ) (m : Content) → numbers ≡ told S past → m ≡ contents.Status to until →
    judge_system S (shown to numbers m past) ≡ enter_only S to until past
only_is S to until past numbers m e f = ap (λ x. judge_system S (shown to x m past)) e ∙ ap (λ x. judge_system S (shown to (told S past) x past)) f

adds_shown : (to : State) (numbers : List ℕ) (m : Content) (past : Past) → Adds past (shown to numbers m past)
adds_shown to numbers m past = adds_both (adds_one (Entered to) past) (adds_puts numbers m (add (Entered to) past))

-- memory was refused before the Puts
pub part_told : {old new : Kept} {was now : Lists} → BlocksAdd → (to : State) (until : ℕ) → Part old new (add (Entered to) old.past) was now → Part old new (enter_only old.setup to until old.past) was now
part_told {old} law to until c = part_first (part_first c (adds_puts (told old.setup old.past) (contents.Status to until) (add (Entered to) old.past))) (law.judges old.setup (shown to (told old.setup old.past) (contents.Status to until) old.past))

-- within the Puts
pub part_shown : {old middle new : Kept} {was between now : Lists} → BlocksAdd → (to : State) (until : ℕ) (numbers : List ℕ) (m : Content) → numbers ≡ told old.setup old.past → m ≡ contents.Status to until →
    Whole old middle (add (Entered to) old.past) was between → Part middle new (put_each numbers m middle.past) between now → Part old new (enter_only old.setup to until old.past) was now
part_shown {old} law to until numbers m e f h c =
    part_is (only_is old.setup to until old.past numbers m e f)
    (part_first (part_then (λ S past. put_each numbers m past) h (adds_one (Entered to) old.past) c) (law.judges old.setup (shown to numbers m old.past)))

-- within System
pub part_judged : {old middle last new : Kept} {was between now : Lists} → (to : State) (until : ℕ) (numbers : List ℕ) (m : Content) → numbers ≡ told old.setup old.past → m ≡ contents.Status to until →
    Whole old middle (add (Entered to) old.past) was between → Whole middle last (put_each numbers m middle.past) between between → Part last new (judge_system last.setup last.past) between now →
    Part old new (enter_only old.setup to until old.past) was now
part_judged {old} to until numbers m e f h i c =
    part_is (only_is old.setup to until old.past numbers m e f) (part_then judge_system (whole_then (λ S past. put_each numbers m past) h i) (adds_shown to numbers m old.past) c)

pub whole_only : {old middle last new : Kept} {was between now : Lists} → (to : State) (until : ℕ) (numbers : List ℕ) (m : Content) → numbers ≡ told old.setup old.past → m ≡ contents.Status to until →
    Whole old middle (add (Entered to) old.past) was between → Whole middle last (put_each numbers m middle.past) between between → Whole last new (judge_system last.setup last.past) between now →
    Whole old new (enter_only old.setup to until old.past) was now
whole_only {old} to until numbers m e f h i j =
    whole_is (only_is old.setup to until old.past numbers m e f) (whole_then judge_system (whole_then (λ S past. put_each numbers m past) h i) j)

-- ## What stands behind it

until_is : (S : Setup) (to : State) (until : ℕ) (past : Past) (numbers : List ℕ) (first : Bool) → numbers ≡ told S past → first ≡ is_first_run to past.journal →
    behind S to first numbers (enter_only S to until past) ≡ enter_until S to until past
unfolding enter_until
until_is S to until past numbers first e f =
    ap (λ x. behind S to first x (enter_only S to until past)) e ∙ ap (λ x. behind S to x (told S past) (enter_only S to until past)) f

-- within the part before
pub part_only : {old new : Kept} {was now : Lists} → BlocksAdd → (to : State) (until : ℕ) → Part old new (enter_only old.setup to until old.past) was now →
    Part old new (enter_until old.setup to until old.past) was now
part_only {old} law to until c =
    part_is (until_is old.setup to until old.past (told old.setup old.past) (is_first_run to old.past.journal) refl refl)
    (part_first c (law.goes_behind old.setup to (is_first_run to old.past.journal) (told old.setup old.past) (enter_only old.setup to until old.past)))

-- within the part behind
pub part_behind : {old middle new : Kept} {was between now : Lists} → BlocksAdd → (to : State) (until : ℕ) (numbers : List ℕ) (first : Bool) → numbers ≡ told old.setup old.past →
    first ≡ is_first_run to old.past.journal → Whole old middle (enter_only old.setup to until old.past) was between → Part middle new (behind middle.setup to first numbers middle.past) between now →
    Part old new (enter_until old.setup to until old.past) was now
part_behind {old} law to until numbers first e f h c =
    part_is (until_is old.setup to until old.past numbers first e f)
    (part_then (λ S past. behind S to first numbers past) h (law.enters_only old.setup to until old.past) c)

pub whole_until : {old middle new : Kept} {was between now : Lists} → (to : State) (until : ℕ) (numbers : List ℕ) (first : Bool) → numbers ≡ told old.setup old.past →
    first ≡ is_first_run to old.past.journal → Whole old middle (enter_only old.setup to until old.past) was between → Whole middle new (behind middle.setup to first numbers middle.past) between now →
    Whole old new (enter_until old.setup to until old.past) was now
whole_until {old} to until numbers first e f h i =
    whole_is (until_is old.setup to until old.past numbers first e f) (whole_then (λ S past. behind S to first numbers past) h i)
