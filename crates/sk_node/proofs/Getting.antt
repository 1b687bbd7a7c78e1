-- What taking a message and losing a link do to the links.
use Rattle.std.specs.Prelude.{◌≡◌, refl, ℕ, ◌+◌, Bool, true, false, List, [], ◌∷◌, length, map, get_or, drop, if◌then◌else◌}
use Rattle.std.proofs.Common.{ap, sym, ◌∙◌, subst}
use Rattle.sk_msg.specs.declared.command.Command.{Command}
use Rattle.sk_msg.specs.declared.command.Command.TheVariants as commands
use Rattle.sk_msg.specs.declared.content.Content.{Content}
use Rattle.sk_msg.specs.declared.content.Content.TheVariants as contents
use Rattle.sk_msg.specs.declared.entry.Entry.TheVariants.{Got, Gone, Hand, Begin}
use Rattle.sk_msg.specs.declared.state.State.TheVariants.{Error, Aborting}
use Rattle.sk_msg.specs.declared.state.State.{State}
use Rattle.sk_law.specs.declared.made.Call.{Call}
use Rattle.sk_law.specs.declared.made.Call.TheVariants as calls
use Rattle.sk_law.specs.declared.made.Made.{Made}
use Rattle.sk_law.specs.declared.setup.Setup.{Setup}
use Rattle.sk_law.specs.Past.{Past, add}
use Rattle.sk_law.specs.Links.{is_peer, comes_in_order}
use Rattle.sk_law.specs.Readings.{got}
use Rattle.sk_law.specs.Receivers.{note, receivers}
use Rattle.sk_law.specs.Blocks.{ask, enter, called, callback, callbacks, take_step, count_down, get, heed, lose, enter_if, judge_limits}
use Rattle.sk_law.specs.Lawful.{AreCalls, note_asked}
use Rattle.sk_law.specs.Rows.{Row, Move, Ready, Step, Count, GiveUp}
use Rattle.sk_node.specs.Turning.{Acts, moves, readies, begins, counts, gives_up, RowWent, Turns}
use Rattle.sk_law.specs.Kept.{Kept}
use Rattle.sk_node.specs.Calls.{handings}
use Rattle.sk_node.specs.Lists.{Lists}
use Rattle.sk_node.specs.Takes.{Takes}
use Rattle.sk_node.specs.declared.rows.Turned.{Turned}
use Rattle.sk_node.specs.declared.rows.Turned.TheVariants.{Entries, Counted, Quiet, Finished}
use Rattle.sk_node.specs.Peers.{IsSameLink, HearsNothing, Hears, Loses}
use Rattle.sk_node.proofs.Sparing.{Spares, both, one, same, judges, enters, enters_if, asks, calls_back, steps, limits}
use Rattle.sk_node.proofs.Sparing as sparing
use Rattle.sk_node.proofs.OpenLinks.{same_then, hears_nothing, hears_in_order, hears_disorder, loses}

nothing : (past : Past) → Spares past past
nothing past = same past past refl refl refl

-- the calls with a message, one after another
handed : (S : Setup) (p place : ℕ) (m : Content) (services : List ℕ) (made : List Made) (past : Past) → map (λ one. one.call) made ≡ handings p place m services → Spares past (callbacks S made past)
handed S p place m [] [] past e = nothing past
handed S p place m [] (one ∷ made) past e = absurd (cc e)
handed S p place m (r ∷ services) [] past e = absurd (cc e)
handed S p place m (r ∷ services) (one ∷ made) past e =
    both (both shown (subst (λ (x : Call). Spares (called x past) (callback S past one)) first (calls_back S past one)))
    (handed S p place m services made (callback S past one) (ap (drop 1) e))
  where
    first : one.call ≡ calls.Message p place r m
    first = ap (λ cs. get_or cs 0 calls.Ready) e

    shown : Spares past (called (calls.Message p place r m) past)
    shown = record { new = Hand p place r ∷ []; is = refl; calm = refl; tools = refl; called = refl }

-- behind a message in order
heeds : (S : Setup) (p place : ℕ) (m : Content) (services : List ℕ) (made : List Made) (past : Past) → map (λ one. one.call) made ≡ handings p place m services → Spares past (heed S p m made past)
unfolding heed
heeds S p place (contents.Status state until) services made past e = judges S past
heeds S p place (contents.Workflow required) services made past e = judges S past
heeds S p place contents.Abort services made past e = enters_if S Aborting past
heeds S p place (contents.LinResponse head response) services made past e = same past (note S p head.service response past) refl refl refl
heeds S p place (contents.Hello name role address) services made past e = handed S p place (contents.Hello name role address) services made past e
heeds S p place contents.Leave services made past e = handed S p place contents.Leave services made past e
heeds S p place (contents.NextStep at size) services made past e = handed S p place (contents.NextStep at size) services made past e
heeds S p place (contents.ServiceAdd service) services made past e = handed S p place (contents.ServiceAdd service) services made past e
heeds S p place contents.ServicesEnd services made past e = handed S p place contents.ServicesEnd services made past e
heeds S p place (contents.Can head frame) services made past e = handed S p place (contents.Can head frame) services made past e
heeds S p place (contents.Eth head payload) services made past e = handed S p place (contents.Eth head payload) services made past e
heeds S p place (contents.Lin head frame) services made past e = handed S p place (contents.Lin head frame) services made past e
heeds S p place (contents.Publish head payload) services made past e = handed S p place (contents.Publish head payload) services made past e
heeds S p place (contents.Call head call payload) services made past e = handed S p place (contents.Call head call payload) services made past e
heeds S p place (contents.Reply head client call payload) services made past e = handed S p place (contents.Reply head client call payload) services made past e
heeds S p place (contents.Refuse reason) services made past e = handed S p place (contents.Refuse reason) services made past e

lost : (S : Setup) (p reason : ℕ) (past : Past) → Spares (add (Gone p reason) past) (lose S p reason past)
unfolding lose
lost S p reason past = by (is_peer S p)
  where
    by : (b : Bool) → Spares (add (Gone p reason) past) (if b then enter_if S Error (add (Gone p reason) past) else add (Gone p reason) past)
    by true = enters_if S Error (add (Gone p reason) past)
    by false = nothing (add (Gone p reason) past)

-- a link is lost, and the limits are judged
pub loses_one : (S : Setup) (p reason : ℕ) (past : Past) → Loses S p reason past (judge_limits S (lose S p reason past))
loses_one S p reason past = loses S p reason past (judge_limits S (lose S p reason past)) (both (lost S p reason past) (limits S (lose S p reason past)))

-- a message is taken, and the limits are judged
pub hears_one : (S : Setup) (p : ℕ) (m : Content) (made : List Made) (past : Past) → AreCalls S past p m made → Hears S p m past (judge_limits S (get S p m made past))
unfolding get
hears_one S p m made past calls_are = by (comes_in_order S past p m) refl
  where
    by : (b : Bool) → comes_in_order S past p m ≡ b → Hears S p m past (judge_limits S (if b then heed S p m made (add (Got p m) past) else lose S p 8 (add (Got p m) past)))
    by true e = hears_in_order S p m past (judge_limits S (heed S p m made (add (Got p m) past))) e
        (both (heeds S p (length (got past.journal p) + 1) m (receivers S past p m) made (add (Got p m) past) calls_are) (limits S (heed S p m made (add (Got p m) past))))
    by false e = hears_disorder S p m past (judge_limits S (lose S p 8 (add (Got p m) past))) e (loses_one S p 8 (add (Got p m) past))

pub hears_taken : (old new : Kept) (p : ℕ) (m : Content) (was now : Lists) → Takes old new p m was now → Hears old.setup p m old.past new.past
hears_taken old new p m was now h =
    subst (λ (x : Past). Hears old.setup p m old.past x) (sym (ap (λ (k : Kept). k.past) h.went.whole ∙ ap (judge_limits old.setup) h.gets)) (hears_one old.setup p m h.went.made old.past h.calls_are)

-- ## What is neither

-- a caller's command, and the limits behind it
pub asked_calm : (S : Setup) (command : Command) (past : Past) → Spares past (judge_limits S (ask S command (note_asked past)))
asked_calm S command past =
    both (same past (note_asked past) refl refl refl) (both (asks S command (note_asked past)) (limits S (ask S command (note_asked past))))

nothing_then : (S : Setup) (a b c : Past) → HearsNothing S a b → HearsNothing S b c → HearsNothing S a c
nothing_then S a b c f g = record { same = λ p. same_then S p a b c (f.same p) (g.same p) }

-- a row, and the limits behind it
row_calm : (S : Setup) (past : Past) (row : Row) (made : List Made) (now : Past) → Acts S past row made now → HearsNothing S past now
row_calm S past (Move to) _ _ (moves _) = hears_nothing S past (enter S to past) (enters S to 0 past)
row_calm S past Ready _ _ (readies made call filled) =
    nothing_then S past (called calls.Ready past) (callback S past made) (record { same = λ p. record { got_is = refl; gones_is = refl; open_is = refl } })
    (hears_nothing S (called calls.Ready past) (callback S past made) (subst (λ (x : Call). Spares (called x past) (callback S past made)) call (calls_back S past made)))
row_calm S past Step _ _ (begins made call filled) =
    hears_nothing S past (take_step S made past)
    (both (one (Begin _ _) past refl) (subst (λ (x : Call). Spares (called x past) (take_step S made past)) call (steps S made past)))
row_calm S past (Count count) _ _ (counts _) = hears_nothing S past (count_down S count past) (sparing.counts S count past)
row_calm S past GiveUp _ _ gives_up = hears_nothing S past (ask S commands.Abort past) (asks S commands.Abort past)

pub hears_row : (S : Setup) (past : Past) (row : Row) (made : List Made) (now : Past) → Acts S past row made now → HearsNothing S past (judge_limits S now)
hears_row S past row made now h = nothing_then S past now (judge_limits S now) (row_calm S past row made now h) (hears_nothing S now (judge_limits S now) (limits S now))

pub hears_rest : (S : Setup) (past : Past) → HearsNothing S past past
hears_rest S past = hears_nothing S past past (nothing past)

hears_went : (old new : Kept) (was now : Lists) (row : Row) → RowWent row old new was now → HearsNothing old.setup old.past new.past
hears_went old new was now row h =
    subst (λ (k : Kept). HearsNothing old.setup old.past k.past) (sym h.went.whole) (hears_row old.setup old.past row h.went.made h.went.past h.acts)

-- a turn, by its answer
pub hears_turned : (turned : Turned) (old new : Kept) (was now : Lists) → Turns turned old new was now → HearsNothing old.setup old.past new.past
hears_turned (Entries n) old new was now h = hears_went old new was now h.one h.row
hears_turned Counted old new was now h = hears_went old new was now (Count h.count) h.row
hears_turned Quiet old new was now h = subst (λ (k : Kept). HearsNothing old.setup old.past k.past) (sym h.same) (hears_rest old.setup old.past)
hears_turned Finished old new was now h = subst (λ (k : Kept). HearsNothing old.setup old.past k.past) (sym h.same) (hears_rest old.setup old.past)
