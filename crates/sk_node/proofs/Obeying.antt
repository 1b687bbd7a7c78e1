-- An accepted command in its parts.
use Rattle.std.specs.Prelude.{◌≡◌, refl, ℕ, Some, None}
use Rattle.std.proofs.Common.{ap, ◌∙◌}
use Rattle.sk_msg.specs.declared.command.Command.{Command}
use Rattle.sk_msg.specs.declared.command.Verdict.TheVariants.{Accepted}
use Rattle.sk_msg.specs.declared.state.State.{State}
use Rattle.sk_msg.specs.declared.entry.Entry.TheVariants.{Ask}
use Rattle.sk_law.specs.declared.setup.Setup.{Setup}
use Rattle.sk_law.specs.Past.{Past, add}
use Rattle.sk_law.specs.Growing.{Adds, BlocksAdd, GoesByEntries}
use Rattle.sk_law.specs.Blocks.{with_pause, accepted, until_of, enter_until, tell_abort, asked}
use Rattle.sk_law.specs.Kept.{Kept, grown}
use Rattle.sk_node.specs.Lists.{Lists, Whole, Part}
use Rattle.sk_node.proofs.Cuts.{adds_same, adds_one, adds_both}
use Rattle.sk_node.proofs.Wholes.{whole_is, whole_none, whole_add, whole_then, part_is, part_at, part_first, part_then}

adds_accepted : (command : Command) (past : Past) → Adds past (accepted command past)
adds_accepted command past = let a : Adds past (with_pause None past) = adds_same refl in adds_both a (adds_one (Ask command Accepted) (with_pause None past))

-- the entry stands
pub whole_accepted : {old one two : Kept} {was : Lists} → GoesByEntries → (command : Command) → one ≡ grown (with_pause None old.past) old → two ≡ grown (add (Ask command Accepted) one.past) one →
    Whole old two (accepted command old.past) was was
whole_accepted {old} {one} {two} {was} law command e f = whole_then (λ S past. add (Ask command Accepted) past) (whole_none e refl) (whole_add law (Ask command Accepted) f refl refl)

-- it doesn't, and no more than the pause count has ended
pub part_paused : {old one two : Kept} {was : Lists} → BlocksAdd → (command : Command) (to : State) → one ≡ grown (with_pause None old.past) old → two ≡ one →
    Part old two (asked old.setup command (Some to) old.past) was was
part_paused {old} {one} {two} {was} law command to e f =
    let h : Whole old two (with_pause None old.past) was was = whole_none (f ∙ e) refl in
    part_at h (adds_same refl) (record { front = (law.answers_ask old.setup command (Some to) old.past).front })

-- the parts behind the entry, with the bound that the code has
abbrev entered : State → ℕ → Setup → Past → Past
entered to until S past = enter_until S to until past

abbrev told_all : Command → Setup → Past → Past
told_all command S past = tell_abort S command past

all_is : (S : Setup) (command : Command) (to : State) (until : ℕ) (past : Past) → until ≡ until_of S command past →
    tell_abort S command (enter_until S to until (accepted command past)) ≡ asked S command (Some to) past
all_is S command to until past u = ap (λ n. tell_abort S command (enter_until S to n (accepted command past))) u

-- within the state
pub part_entering : {old two three : Kept} {was between now : Lists} → BlocksAdd → (command : Command) (to : State) (until : ℕ) → until ≡ until_of old.setup command old.past →
    Whole old two (accepted command old.past) was between → Part two three (enter_until two.setup to until two.past) between now → Part old three (asked old.setup command (Some to) old.past) was now
part_entering {old} law command to until u h c =
    part_is (all_is old.setup command to until old.past u)
    (part_first (part_then (entered to until) h (adds_accepted command old.past) c) (law.tells old.setup command (enter_until old.setup to until (accepted command old.past))))

-- within what is told of Abort
pub part_telling : {old two three four : Kept} {was between now last : Lists} → BlocksAdd → (command : Command) (to : State) (until : ℕ) → until ≡ until_of old.setup command old.past →
    Whole old two (accepted command old.past) was between → Whole two three (enter_until two.setup to until two.past) between now → Part three four (tell_abort three.setup command three.past) now last →
    Part old four (asked old.setup command (Some to) old.past) was last
part_telling {old} law command to until u h i c =
    part_is (all_is old.setup command to until old.past u)
    (part_then (told_all command) (whole_then (entered to until) h i) (adds_both (adds_accepted command old.past) (law.enters old.setup to until (accepted command old.past))) c)

pub whole_asked : {old two three four : Kept} {was between now last : Lists} → (command : Command) (to : State) (until : ℕ) → until ≡ until_of old.setup command old.past →
    Whole old two (accepted command old.past) was between → Whole two three (enter_until two.setup to until two.past) between now → Whole three four (tell_abort three.setup command three.past) now last →
    Whole old four (asked old.setup command (Some to) old.past) was last
whole_asked {old} command to until u h i j = whole_is (all_is old.setup command to until old.past u) (whole_then (told_all command) (whole_then (entered to until) h i) j)
