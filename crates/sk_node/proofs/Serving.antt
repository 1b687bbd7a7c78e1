-- A call of a participant, by what happened to what it keeps.
use Rattle.std.specs.Prelude.{◌≡◌, ◌<◌, ◌≤◌, refl, ℕ, ◌+◌, ◌-◌, Bool, true, false, IsTrue, List, [], ◌++◌, length, slice_index_or, Option, Some, None, OnSome, IfNone}
use Rattle.std.proofs.Common.{ap, sym, ◌∙◌, subst, append-nil, arith}
use mathlib.Core.List.{IsPrefix}
use Rattle.sk_msg.specs.declared.command.Command.TheVariants.{Abort}
use Rattle.sk_msg.specs.declared.entry.Entry.{Entry}
use Rattle.sk_msg.specs.declared.state.State.TheVariants.{Error}
use Rattle.sk_msg.specs.Edges.{has_edge}
use Rattle.sk_law.specs.declared.made.Made.{Made}
use Rattle.sk_law.specs.declared.setup.Setup.{Setup}
use Rattle.sk_law.specs.Past.{Past}
use Rattle.sk_law.specs.Readings.{state_of, payload, put}
use Rattle.sk_law.specs.Links.{is_open}
use Rattle.sk_law.specs.Blocks.{with_completed, judge_limits}
use Rattle.sk_law.specs.Ends.{left, TurnsEnd, LimitsHold}
use Rattle.sk_law.specs.Growing.{Adds, BlocksAdd}
use Rattle.sk_law.specs.Lawful.{Happens, Lawful, goes_on, note_asked, gets, loses, completes, asks, adds, moves, readies, begins, counts, gives_up}
use Rattle.sk_law.specs.Kept.{Kept, IsCut}
use Rattle.sk_node.specs.Known.{Known, Keeps, Serves, Stops, IsSound}
use Rattle.sk_node.specs.Lists.{Lists, Whole, Part}
use Rattle.sk_node.specs.Went.{Went, WentCut}
use Rattle.sk_node.specs.Turning.{IsEnded, RowCut, Turns, IsTurned}
use Rattle.sk_node.specs.declared.rows.Turned.{Turned}
use Rattle.sk_node.specs.declared.rows.Turned.TheVariants.{Entries, Counted, Quiet, Finished}
use Rattle.sk_node.proofs.Answering.{adds_length, ended}
use Rattle.sk_node.proofs.Cuts.{adds_same, adds_both}
use Rattle.sk_node.proofs.Rowing.{cut_of}

-- ## What happens only adds

adds_happened : BlocksAdd → (S : Setup) (past : Past) (made : List Made) (now : Past) → Happens S past made now → Adds past now
adds_happened law S past _ _ (gets p m made o c f) = law.gets S p m made past
adds_happened law S past _ _ (loses p reason o l) = law.loses S p reason past
adds_happened law S past _ _ (completes number) = adds_both (adds_same refl) (law.completes S number (with_completed number past))
adds_happened law S past _ _ (asks command) = adds_both (adds_same refl) (law.asks S command (note_asked past))
adds_happened law S past _ _ (adds name few) = law.adds_tool S name past
adds_happened law S past _ _ (moves to r) = law.enters S to 0 past
adds_happened law S past _ _ (readies made r c f) = law.calls_back S past made
adds_happened law S past _ _ (begins made r c f) = law.steps S made past
adds_happened law S past _ _ (counts count r) = law.counts S count past
adds_happened law S past _ _ (gives_up r) = law.asks S Abort past

-- entries only came
pub came : BlocksAdd → {old new : Kept} {was now : Lists} → Went old new was now → (before after : List Entry) → before ≡ old.past.journal → after ≡ new.past.journal → length before ≤ length after
came law {old} {new} h before after e f =
    let g : Adds old.past (judge_limits old.setup h.past) = adds_both (adds_happened law old.setup old.past h.made h.past h.happens) (law.limits old.setup h.past) in
    let n : length after ≡ length (judge_limits old.setup h.past).journal = ap length f ∙ ap (λ (k : Kept). length k.past.journal) h.whole in
    omega (arith, adds_length g, n, (ap length e))

-- so many more
pub counted_entries : BlocksAdd → {old new : Kept} {was now : Lists} → Went old new was now → (before after : List Entry) → before ≡ old.past.journal → after ≡ new.past.journal →
    length new.past.journal ≡ length old.past.journal + (length after - length before)
counted_entries law h before after e f = omega (arith, came law h before after e f, (ap length e), (ap length f))

-- ## Served

past_of : {old new : Kept} {was now : Lists} → (h : Went old new was now) → judge_limits old.setup h.past ≡ new.past
past_of h = sym (ap (λ (k : Kept). k.past) h.whole)

pub keeps : BlocksAdd → TurnsEnd → (old new : Known) {was now : Lists} → (h : Went old.kept new.kept was now) → new.poisoned ≡ false → Keeps old new h.made
keeps law ends old new h sound = record {
  grows = subst (λ (p : Past). IsPrefix old.kept.past.journal p.journal) (past_of h) (adds_both (adds_happened law S past h.made h.past h.happens) (law.limits S h.past)).front;
  lawful = λ earlier l. subst (λ (p : Past). Lawful S p (earlier ++ h.made)) (past_of h) (goes_on past h.past earlier h.made l h.happens);
  lower = subst (λ (p : Past). left p ≤ left past) (past_of h) (ends.never_rises S past h.past h.made h.happens);
  sound = sound;
}
  where
    S : Setup
    S = old.kept.setup

    past : Past
    past = old.kept.past

pub serves : BlocksAdd → TurnsEnd → (old new : Known) {was now : Lists} → Went old.kept new.kept was now → new.poisoned ≡ false → Serves old new was now
serves law ends old new h sound = record { went = h; keeps = keeps law ends old new h sound }

-- ## Stopped

pub stops : (old new : Known) {was now : Lists} → WentCut old.kept new.kept was now → new.poisoned ≡ true → Stops old new was now
stops old new h poisoned = record {
  went = h;
  lawful = λ earlier l. goes_on old.kept.past h.past earlier (h.made ++ h.others) l h.happens;
  poisoned = poisoned;
}

-- ## Blocks of no calls of the app

pub went_whole : {old new : Kept} {all : Past} {was now : Lists} → Happens old.setup old.past [] all → Whole old new (judge_limits old.setup all) was now → Went old new was now
went_whole {old} {new} {all} {was} {now} happens h = record { made = []; calls = h.made ∙ sym (append-nil was.made); past = all; happens = happens; whole = h.past; told = h.told }

-- ## What holds at every moment

pub sound_went : LimitsHold → (old new : Kept) {was now : Lists} → Went old new was now → length new.out ≡ length new.setup.names + length new.past.memory.tools →
    ((p : ℕ) → slice_index_or new.out p 0 ≤ length (put new.past.journal p)) → IsSound (record { kept = new; poisoned = false })
sound_went law old new {was} {now} h all within = record {
  all = all;
  within = within;
  short = λ e. subst (λ (p : Past). has_edge (state_of p.journal) Error ≡ true → length p.journal < 500000) (past_of h) (law.entries old.setup h.past);
  light = λ e. subst (λ (p : Past). has_edge (state_of p.journal) Error ≡ true → payload p.journal < 33554432) (past_of h) (law.bytes old.setup h.past);
}

-- of one to which memory was refused a front stands
pub sound_stopped : (k : Kept) → length k.out ≡ length k.setup.names + length k.past.memory.tools → ((p : ℕ) → slice_index_or k.out p 0 ≤ length (put k.past.journal p)) →
    IsSound (record { kept = k; poisoned = true })
sound_stopped k all within = record {
  all = all;
  within = within;
  short = λ e. absurd cc;
  light = λ e. absurd cc;
}

-- ## Of a participant that is open, with its parts

abbrev pub known : Kept → Bool → Known
known k b = record { kept = k; poisoned = b }

pub sound_in : LimitsHold → (k new : Kept) (b : Bool) {was now : Lists} → b ≡ false → Went k new was now → length new.out ≡ length new.setup.names + length new.past.memory.tools →
    ((p : ℕ) → slice_index_or new.out p 0 ≤ length (put new.past.journal p)) → IsSound (record { kept = new; poisoned = b })
sound_in law k new b f h all within = subst (λ x. IsSound (record { kept = new; poisoned = x })) (sym f) (sound_went law k new h all within)

pub serves_in : BlocksAdd → TurnsEnd → (old : Known) (k new : Kept) (b : Bool) {was now : Lists} → known k b ≡ old → b ≡ false → Went k new was now →
    Serves old (record { kept = new; poisoned = b }) was now
serves_in law ends old k new b {was} {now} e f h = subst (λ o. Serves o (record { kept = new; poisoned = b }) was now) e (serves law ends (record { kept = k; poisoned = b }) (record { kept = new; poisoned = b }) h f)

pub stops_in : (old : Known) (k new : Kept) (b : Bool) {was now : Lists} → known k b ≡ old → WentCut k new was now → Stops old (record { kept = new; poisoned = true }) was now
stops_in old k new b {was} {now} e h = subst (λ o. Stops o (record { kept = new; poisoned = true }) was now) e (stops (record { kept = k; poisoned = b }) (record { kept = new; poisoned = true }) h refl)

-- the same of what stands of a block
pub cut_in : (all : Setup → Past → Past) (old : Known) (k new : Kept) (b : Bool) {was now : Lists} → known k b ≡ old → Part k new (judge_limits k.setup (all k.setup k.past)) was now →
    IsCut old.kept new (judge_limits old.kept.setup (all old.kept.setup old.kept.past))
cut_in all old k new b {was} {now} e h = subst (λ (o : Known). IsCut o.kept new (judge_limits o.kept.setup (all o.kept.setup o.kept.past))) e (cut_of h)

-- and of a row
pub row_cut_in : (old : Known) (k new : Kept) (b : Bool) {was now : Lists} → known k b ≡ old → RowCut k new was now → RowCut old.kept new was now
row_cut_in old k new b {was} {now} e h = subst (λ (o : Known). RowCut o.kept new was now) e h

-- what is known of the parts holds of the participant
pub holds_in : (Holds : Setup → Past → Past → Type 0) (old : Known) (k : Kept) (b : Bool) (new : Past) → known k b ≡ old → Holds k.setup k.past new → Holds old.kept.setup old.kept.past new
holds_in Holds old k b new e h = subst (λ (o : Known). Holds o.kept.setup o.kept.past new) e h

pub open_in : (old : Known) (k : Kept) (b : Bool) (p : ℕ) → known k b ≡ old → IsTrue (is_open old.kept.setup old.kept.past p) → IsTrue (is_open k.setup k.past p)
open_in old k b p e h = subst (λ (o : Known). IsTrue (is_open o.kept.setup o.kept.past p)) (sym e) h

-- ## Taking out

-- only what was taken out changes
pub same_past : {X : Type 0} (r : Option X) (k new : Kept) (out : List ℕ) → OnSome r (new ≡ record k { out = out }) → IfNone r (new ≡ k) → new.past ≡ k.past
same_past (Some x) k new out e f = ap (λ (n : Kept). n.past) e
same_past None k new out e f = ap (λ (n : Kept). n.past) f

pub sound_out : (k new : Kept) (b : Bool) → new.past ≡ k.past → IsSound (known k b) → length new.out ≡ length new.setup.names + length new.past.memory.tools →
    ((p : ℕ) → slice_index_or new.out p 0 ≤ length (put new.past.journal p)) → IsSound (known new b)
sound_out k new b e sound all within = record {
  all = all;
  within = within;
  short = λ f. subst (λ (x : Past). has_edge (state_of x.journal) Error ≡ true → length x.journal < 500000) (sym e) (sound.short f);
  light = λ f. subst (λ (x : Past). has_edge (state_of x.journal) Error ≡ true → payload x.journal < 33554432) (sym e) (sound.light f);
}

-- ## A turn

pub turned_in : BlocksAdd → TurnsEnd → (turned : Turned) (old : Known) (k new : Kept) (b : Bool) (was now : Lists) → known k b ≡ old → b ≡ false → Turns turned k new was now → IsTurned turned old (known new b) was now
turned_in law ends turned old k new b was now e f h = subst (λ o. IsTurned turned o (known new b) was now) e (by turned h)
  where
    by : (t : Turned) → Turns t k new was now → IsTurned t (known k b) (known new b) was now
    by (Entries n) i = (i, keeps law ends (known k b) (known new b) i.row.went f)
    by Counted i = (i, keeps law ends (known k b) (known new b) i.row.went f)
    by Quiet i = (i, ap (λ x. known x b) i.same)
    by Finished i = (i, ap (λ x. known x b) i.same)

pub sound_turned : LimitsHold → (turned : Turned) (k new : Kept) (b : Bool) (was now : Lists) → b ≡ false → IsSound (known k b) → Turns turned k new was now →
    length new.out ≡ length new.setup.names + length new.past.memory.tools → ((p : ℕ) → slice_index_or new.out p 0 ≤ length (put new.past.journal p)) → IsSound (known new b)
sound_turned law (Entries n) k new b was now f sound h all within = sound_in law k new b f h.row.went all within
sound_turned law Counted k new b was now f sound h all within = sound_in law k new b f h.row.went all within
sound_turned law Quiet k new b was now f sound h all within = subst (λ x. IsSound (known x b)) (sym h.same) sound
sound_turned law Finished k new b was now f sound h all within = subst (λ x. IsSound (known x b)) (sym h.same) sound

-- at its end, number by number
pub ended_in : (turned : Turned) (old : Known) (k new : Kept) (b : Bool) (was now : Lists) → known k b ≡ old → IsSound (known k b) → Turns turned k new was now → turned ≡ Finished → IsEnded old.kept
ended_in turned old k new b was now e sound h f = subst (λ (o : Known). IsEnded o.kept) e (by turned h f)
  where
    by : (t : Turned) → Turns t k new was now → t ≡ Finished → IsEnded k
    by (Entries n) i g = absurd (cc g)
    by Counted i g = absurd (cc g)
    by Quiet i g = absurd (cc g)
    by Finished i g = ended k sound.all i.finished_is
