-- Replaying what happens to a participant: what comes out is lawful.
use Rattle.std.specs.Prelude.{◌≡◌, refl, ℕ, ◌+◌, nat_lt, Bool, true, false, List, [], ◌∷◌, ◌++◌, map, length, Option, Some, None, unwrap_or}
use Rattle.std.specs.List.{list_all}
use mathlib.Core.Path.{ap, subst}
use Rattle.sk_msg.specs.declared.command.Command.{Command}
use Rattle.sk_msg.specs.declared.command.Command.TheVariants.{Abort}
use Rattle.sk_msg.specs.declared.content.Content.{Content}
use Rattle.sk_msg.specs.declared.action.Action.{Action}
use Rattle.sk_msg.specs.declared.entry.Entry.{Entry}
use Rattle.sk_law.specs.declared.made.Call.{Call}
use Rattle.sk_law.specs.declared.made.Call.TheVariants as calls
use Rattle.sk_law.specs.declared.made.Made.{Made}
use Rattle.sk_law.specs.declared.setup.Setup.{Setup}
use Rattle.sk_law.specs.Past.{Past}
use Rattle.sk_law.specs.Readings.{got, next_number, next_time}
use Rattle.sk_law.specs.Links.{is_open}
use Rattle.sk_law.specs.Receivers.{receivers}
use Rattle.sk_law.specs.Rows.{Row, Move, Ready, Step, Count, GiveUp, row}
use Rattle.sk_law.specs.Blocks.{ask, enter, callback, take_step, complete, lose, get, making, add_tool, count_down, judge_limits, with_completed}
use Rattle.sk_law.specs.Lawful.{Lawful, IsLawful, Happens, is_filled, is_loss, note_asked, starts, goes_on, gets, loses, completes, asks, adds, moves, readies, begins, counts, gives_up}

-- what a callback asks for
pub record Asked : Type 0 where
  pub actions : List Action
  pub over : Bool

abbrev pub nothing : Asked
nothing = record { actions = []; over = false }

pub data Event : Type 0 where
  Gets : ℕ → Content → List Asked → Event
  Loses : ℕ → ℕ → Event
  Completes : ℕ → Event
  Asks : Command → Event
  Adds : List ℕ → Event
  Turns : Asked → Event

pub record Ended : Type 0 where
  pub now : Past
  pub made : List Made

abbrev pub ended : Past → List Made → Option Ended
ended now made = Some (record { now = now; made = made })

abbrev pub only : Bool → Option Ended → Option Ended
only true e = e
only false e = None

abbrev pub made_of : Call → Asked → Made
made_of call asked = record { call = call; actions = asked.actions; over = asked.over }

abbrev pub made_by : List Call → List Asked → List Made
made_by [] asked = []
made_by (call ∷ more) [] = []
made_by (call ∷ more) (one ∷ asked) = made_of call one ∷ made_by more asked

abbrev pub same_length : List Call → List Asked → Bool
same_length [] [] = true
same_length (call ∷ more) (one ∷ asked) = same_length more asked
same_length _ _ = false

abbrev pub calls_of : Setup → Past → ℕ → Content → List Call
calls_of S past p m = map (λ r. calls.Message p (length (got past.journal p) + 1) r m) (receivers S past p m)

abbrev pub step_call : Setup → Past → Call
step_call S past = calls.Step (next_number past.journal) (next_time (unwrap_or S.step 0) past.journal)

abbrev pub turned : Setup → Past → Asked → Option Row → Option Ended
turned S past asked None = None
turned S past asked (Some (Move to)) = ended (enter S to past) []
turned S past asked (Some Ready) =
    only (is_filled (made_of calls.Ready asked)) (ended (callback S past (made_of calls.Ready asked)) (made_of calls.Ready asked ∷ []))
turned S past asked (Some Step) =
    only (is_filled (made_of (step_call S past) asked)) (ended (take_step S (made_of (step_call S past) asked) past) (made_of (step_call S past) asked ∷ []))
turned S past asked (Some (Count count)) = ended (count_down S count past) []
turned S past asked (Some GiveUp) = ended (ask S Abort past) []

abbrev pub after : Setup → Past → Event → Option Ended
after S past (Gets p m asked) =
    only (is_open S past p) (only (same_length (calls_of S past p m) asked) (only (list_all is_filled (made_by (calls_of S past p m) asked))
    (ended (get S p m (made_by (calls_of S past p m) asked) past) (made_by (calls_of S past p m) asked))))
after S past (Loses p reason) = only (is_open S past p) (only (is_loss reason) (ended (lose S p reason past) []))
after S past (Completes n) = ended (complete S n (with_completed n past)) []
after S past (Asks command) = ended (ask S command (note_asked past)) []
after S past (Adds name) = only (nat_lt (length past.memory.tools) 4) (ended (add_tool S name past) [])
after S past (Turns asked) = turned S past asked (row S past)

abbrev pub going : Setup → (Past → List Made → Option Ended) → List Made → Option Ended → Option Ended
going S next before None = None
going S next before (Some e) = next (judge_limits S e.now) (before ++ e.made)

abbrev pub replay : Setup → List Event → Past → List Made → Option Ended
replay S [] past made = ended past made
replay S (event ∷ events) past made = going S (replay S events) made (after S past event)

-- ## It is lawful

same_calls : (cs : List Call) (asked : List Asked) → same_length cs asked ≡ true → map (λ one. one.call) (made_by cs asked) ≡ cs
same_calls [] [] h = refl
same_calls [] (one ∷ asked) h = refl
same_calls (call ∷ more) [] h = cc
same_calls (call ∷ more) (one ∷ asked) h = ap (λ x. call ∷ x) (same_calls more asked h)

HappensTo : Setup → Past → Option Ended → Type 0
HappensTo S past None = Unit {0}
HappensTo S past (Some e) = Happens S past e.made e.now

test : (S : Setup) (past : Past) (b : Bool) (o : Option Ended) → (b ≡ true → HappensTo S past o) → HappensTo S past (only b o)
unfolding HappensTo
test S past true o h = h refl
test S past false o h = tt

by_row : (S : Setup) (past : Past) (asked : Asked) (r : Option Row) → row S past ≡ r → HappensTo S past (turned S past asked r)
unfolding HappensTo
by_row S past asked None e = tt
by_row S past asked (Some (Move to)) e = moves to e
by_row S past asked (Some Ready) e = test S past _ _ (λ filled. readies (made_of calls.Ready asked) e refl filled)
by_row S past asked (Some Step) e = test S past _ _ (λ filled. begins (made_of (step_call S past) asked) e refl filled)
by_row S past asked (Some (Count count)) e = counts count e
by_row S past asked (Some GiveUp) e = gives_up e

by_event : (S : Setup) (past : Past) (event : Event) → HappensTo S past (after S past event)
unfolding HappensTo
by_event S past (Gets p m asked) = test S past _ _ (λ linked. test S past _ _ (λ same. test S past _ _ (λ filled.
    gets p m (made_by (calls_of S past p m) asked) linked (same_calls (calls_of S past p m) asked same) filled)))
by_event S past (Loses p reason) = test S past (is_open S past p) (only (is_loss reason) (ended (lose S p reason past) []))
    (λ linked. test S past (is_loss reason) (ended (lose S p reason past) []) (λ loss. loses p reason linked loss))
by_event S past (Completes n) = completes n
by_event S past (Asks command) = asks command
by_event S past (Adds name) = test S past (nat_lt (length past.memory.tools) 4) (ended (add_tool S name past) []) (λ few. adds name few)
by_event S past (Turns asked) = by_row S past asked (row S past) refl

LawfulEnd : Setup → Option Ended → Type 0
LawfulEnd S None = Unit {0}
LawfulEnd S (Some e) = Lawful S e.now e.made

replay_on : (S : Setup) (events : List Event) (past : Past) (made : List Made) → Lawful S past made →
    ((now : Past) (all : List Made) → Lawful S now all → LawfulEnd S (replay S events now all)) →
    (o : Option Ended) → HappensTo S past o → LawfulEnd S (going S (replay S events) made o)
unfolding HappensTo LawfulEnd
replay_on S events past made law next None h = tt
replay_on S events past made law next (Some e) h = next (judge_limits S e.now) (made ++ e.made) (goes_on past e.now made e.made law h)

replay_from : (S : Setup) (events : List Event) (past : Past) (made : List Made) → Lawful S past made → LawfulEnd S (replay S events past made)
unfolding LawfulEnd
replay_from S [] past made law = law
replay_from S (event ∷ events) past made law =
    replay_on S events past made law (λ now all l. replay_from S events now all l) (after S past event) (by_event S past event)

abbrev pub journal_in : Option Ended → Option (List Entry)
journal_in None = None
journal_in (Some e) = Some e.now.journal

IsLawfulEnd : Setup → Option (List Entry) → Type 0
IsLawfulEnd S None = Unit {0}
IsLawfulEnd S (Some journal) = IsLawful S journal

end_is_lawful : (S : Setup) (e : Option Ended) → LawfulEnd S e → IsLawfulEnd S (journal_in e)
unfolding LawfulEnd IsLawfulEnd
end_is_lawful S None h = tt
end_is_lawful S (Some e) h = record { memory = e.now.memory; made = e.made; lawful = h }

-- the journal that a replay ends with is lawful
pub by_replay : (S : Setup) (events : List Event) (journal : List Entry) → journal_in (replay S events (making S) []) ≡ Some journal → IsLawful S journal
unfolding IsLawfulEnd
by_replay S events journal e = subst (IsLawfulEnd S) e (end_is_lawful S (replay S events (making S) []) (replay_from S events (making S) [] starts))
