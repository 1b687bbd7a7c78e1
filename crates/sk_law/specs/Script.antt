-- The steps that a journal tells of, and journals that follow a script.
use Rattle.std.specs.Prelude.{◌≡◌, ℕ, ◌==◌, nat_lt, Bool, true, false, ◌||◌, List, [], ◌∷◌, ◌++◌, length, filter, map, take, Option, Some, None, if◌then◌else◌}
use Rattle.std.specs.List.{filter_map, list_any, AllByRecursion}
use Rattle.sk_msg.specs.declared.action.Action.{Action}
use Rattle.sk_msg.specs.declared.command.Command.TheVariants.{Stop}
use Rattle.sk_msg.specs.declared.command.Verdict.TheVariants.{Accepted}
use Rattle.sk_msg.specs.declared.content.Content.{Content}
use Rattle.sk_msg.specs.declared.entry.Entry.{Entry}
use Rattle.sk_msg.specs.declared.entry.Entry.TheVariants.{Begin, Ask, Did, Stray, State as Entered}
use Rattle.sk_msg.specs.declared.head.Head.{Head}
use Rattle.sk_msg.specs.declared.state.State.TheVariants.{Error, Aborting}
use Rattle.sk_msg.specs.Each.{each_after}
use Rattle.sk_msg.specs.Heads.{head_of}
use Rattle.sk_msg.specs.States.{is_state}
use Rattle.sk_law.specs.declared.made.Call.{Call}
use Rattle.sk_law.specs.declared.made.Call.TheVariants as calls
use Rattle.sk_law.specs.declared.made.Made.{Made}
use Rattle.sk_law.specs.declared.visible.Visible.{Visible}
use Rattle.sk_law.specs.Past.{Past}
use Rattle.sk_law.specs.Readings.{mark, stamp}
use Rattle.sk_law.specs.Told.{gather, heard}
use Rattle.sk_law.specs.Visible.{visible}

-- ## The steps of a journal

-- a message as a script and a report see it: its place is left out
pub record Delivery : Type 0 where
  pub stamp : ℕ
  pub peer : ℕ
  pub service : ℕ
  pub message : Content

-- without its place
abbrev pub delivered : Visible → Delivery
delivered item = record { stamp = item.stamp; peer = item.peer; service = item.service; message = item.message }

-- what a step begins with
pub record View : Type 0 where
  pub at : ℕ
  pub seen : List Delivery

-- of the step that begins at this time behind these entries
abbrev pub view_at : List Entry → ℕ → View
view_at before t = record { at = t; seen = map delivered (visible (heard before) (stamp before) t) }

-- the view of a step that begins
abbrev pub view_by : List Entry → Entry → List View
view_by before (Begin n t) = view_at before t ∷ []
view_by before _ = []

-- of each step, in order
abbrev pub views : List Entry → List View
views es = gather view_by [] es

-- ## What a report shows of a step

-- a step, as a report shows it
pub record Step : Type 0 where
  pub view : View
  -- the data messages that were sent while it was open, in order
  pub sends : List Content
  -- a Stop was accepted while it was open
  pub stops : Bool

-- the mark is this number
abbrev pub has_mark : ℕ → Option Head → Bool
has_mark n None = false
has_mark n (Some head) = head.mark == n

-- the data message that a Did says was sent in this step
abbrev pub sent_in : ℕ → Entry → Option Content
sent_in n (Did service code (Some m)) = if has_mark n (head_of m) then Some m else None
sent_in n _ = None

-- the number of the step in which a Stop is accepted, 0 outside of steps
abbrev pub stop_by : List Entry → Entry → List ℕ
stop_by before (Ask Stop Accepted) = mark before ∷ []
stop_by before _ = []

-- of a step that begins behind these entries, in the whole journal
abbrev pub step_in : List Entry → List Entry → Entry → List Step
step_in es before (Begin n t) = record {
  view = view_at before t;
  sends = filter_map (sent_in n) es;
  stops = list_any (λ m. m == n) (gather stop_by [] es);
} ∷ []
step_in es before _ = []

-- each step of the journal, in order: all that a report shows of it
abbrev pub steps_of : List Entry → List Step
steps_of es = gather (step_in es) [] es

-- ## Scripts

-- what is asked for when the participant is ready, and in a step, by what that one and those before it began with
pub record Script : Type 0 where
  pub ready : List Action
  pub step : List View → View → List Action

-- a call that would ask for these: the first 256 of them, and whether there are more
abbrev pub AsksFor : Made → List Action → Type 0
AsksFor made all = (made.actions ≡ take 256 all) × (made.over ≡ nat_lt 256 (length all))

-- the call of the ready handler
abbrev pub is_ready : Call → Bool
is_ready calls.Ready = true
is_ready _ = false

-- the call of a step
abbrev pub is_step : Call → Bool
is_step (calls.Step n t) = true
is_step _ = false

-- the call with a message
abbrev pub is_message : Call → Bool
is_message (calls.Message p place r m) = true
is_message _ = false

-- there are as many calls of steps as steps, and one after another they ask for what the script says
abbrev pub PlaySteps : Script → List View → List View → List Made → Type 0
PlaySteps script before [] [] = Unit {0}
PlaySteps script before (now ∷ later) (one ∷ more) =
    AsksFor one (script.step before now) × PlaySteps script (before ++ now ∷ []) later more
PlaySteps script before _ _ = ⊥

-- each of these calls asks for these
abbrev pub AllAskFor : List Action → List Made → Type 0
AllAskFor all made = AllByRecursion (λ one. AsksFor one all) made

-- Error or Aborting is entered
abbrev pub has_failed : Entry → Bool
has_failed (Entered state) = is_state Error state || is_state Aborting state
has_failed _ = false

-- a Stray stands behind one of these
abbrev pub is_fair_stray : List Entry → Entry → Bool
is_fair_stray before (Stray n) = list_any has_failed before
is_fair_stray before _ = true

-- each call asks for what the script says, and that with a message for nothing; no caller asks for a command; and a
-- completion that doesn't fit comes only behind Error or Aborting
pub record Follows (script : Script) (past : Past) (made : List Made) : Type 0 where
  pub ready : AllAskFor script.ready (filter (λ one. is_ready one.call) made)
  pub steps : PlaySteps script [] (views past.journal) (filter (λ one. is_step one.call) made)
  pub messages : AllAskFor [] (filter (λ one. is_message one.call) made)
  pub unasked : past.memory.asked ≡ false
  pub fair : each_after is_fair_stray [] past.journal ≡ true

-- no tool was added
abbrev pub HasNoTools : Past → Type 0
HasNoTools past = past.memory.tools ≡ []
