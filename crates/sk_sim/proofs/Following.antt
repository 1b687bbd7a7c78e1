-- A lawful journal follows a script that the calls of the app have played.
use Rattle.std.specs.Prelude.{◌≡◌, refl, true, false, List, [], ◌∷◌, ◌++◌, filter}
use Rattle.std.specs.List.{list_any}
use Rattle.std.proofs.Common.{sym, subst}
use Rattle.std.proofs.lemmas.Bool.{and_from, or_parts}
use Rattle.sk_msg.specs.declared.entry.Entry.{Entry}
use Rattle.sk_msg.specs.declared.entry.Entry.TheVariants.{Stray}
use Rattle.sk_msg.specs.Each.{each_after}
use Rattle.sk_law.specs.declared.made.Made.{Made}
use Rattle.sk_law.specs.declared.setup.Setup.{Setup}
use Rattle.sk_law.specs.Past.{Past}
use Rattle.sk_law.specs.Lawful.{Lawful}
use Rattle.sk_law.specs.Script.{Script, is_step, PlaySteps, is_fair_stray, Follows}
use Rattle.sk_sim.specs.Parts.{is_stray}
use Rattle.sk_sim.specs.Played.{HasPlayed}
use Rattle.sk_sim.proofs.Called.{lawful_shown}
use Rattle.sk_sim.proofs.Agreeing.{same_views}
use Rattle.sk_sim.proofs.Asking.{play_steps, messages_ask_nothing, readies_ask}

fair_one : (before : List Entry) (e : Entry) → is_stray e ≡ false → is_fair_stray before e ≡ true
fair_one before (Stray k) none = absurd (cc)
fair_one before e none = refl

all_fair : (before es : List Entry) → list_any is_stray es ≡ false → each_after is_fair_stray before es ≡ true
all_fair before [] none = refl
all_fair before (e ∷ es) none =
    let b = or_parts (is_stray e) (list_any is_stray es) none in
    and_from (is_fair_stray before e) (each_after is_fair_stray (before ++ e ∷ []) es) (fair_one before e b.0) (all_fair (before ++ e ∷ []) es b.1)

-- a lawful journal follows a script where each call of the app asked for what the script says, no caller asks, and no completion
-- comes that doesn't fit
pub follows_script : (S : Setup) (past : Past) (made : List Made) (script : Script) → Lawful S past made → HasPlayed script made
    → past.memory.asked ≡ false → list_any is_stray past.journal ≡ false → Follows script past made
follows_script S past made script law played unasked strays =
    let shown = (lawful_shown S past made law).shows in
    record {
      ready = readies_ask script shown played;
      steps =
          subst (λ l. PlaySteps script [] l (filter (λ (one : Made). is_step one.call) made)) (sym (same_views shown))
          (play_steps script [] made played);
      messages = messages_ask_nothing script [] made played;
      unasked = unasked;
      fair = all_fair [] past.journal strays;
    }
