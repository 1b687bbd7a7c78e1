-- What an app was called with, and whether it asked for what its script says: judged on the calls alone.
use Rattle.std.specs.Prelude.{ℕ, Bool, List, [], ◌∷◌, ◌++◌, Option, Some, None, map, if◌then◌else◌}
use Rattle.std.specs.List.{fold, filter_map, list_all}
use Rattle.sk_msg.specs.declared.action.Action.{Action}
use Rattle.sk_law.specs.declared.made.Call.{Call}
use Rattle.sk_law.specs.declared.made.Call.TheVariants as calls
use Rattle.sk_law.specs.declared.made.Heard.{Heard}
use Rattle.sk_law.specs.declared.made.Heard.TheVariants as hearings
use Rattle.sk_law.specs.declared.made.Made.{Made}
use Rattle.sk_law.specs.Script.{View, Script, AsksFor, delivered, is_message}
use Rattle.sk_law.specs.Visible.{visible}

-- the message that an app is called with
abbrev pub handed_in : Call → Option Heard
handed_in (calls.Message p place r m) = Some (hearings.Message p place r m)
handed_in _ = None

-- those of these calls, in order
abbrev pub handed : List Made → List Heard
handed made = filter_map (λ one. handed_in one.call) made

-- the time of the last step, behind one call more
abbrev pub begun_at : ℕ → Call → ℕ
begun_at last (calls.Step n t) = t
begun_at last _ = last

-- the time of the last of these steps, 0 before the first
abbrev pub last_begun : List Made → ℕ
last_begun made = fold (λ last one. begun_at last one.call) 0 made

-- what a step at this time begins with, behind these calls
abbrev pub view_behind : List Made → ℕ → View
view_behind before t = record { at = t; seen = map delivered (visible (handed before) (last_begun before) t) }

-- of a call that is a step
abbrev pub view_called : List Made → Call → List View
view_called before (calls.Step n t) = view_behind before t ∷ []
view_called before _ = []

-- of each step among the calls behind these
abbrev pub views_from : List Made → List Made → List View
views_from before [] = []
views_from before (one ∷ more) = view_called before one.call ++ views_from (before ++ one ∷ []) more

-- what each of these steps began with
abbrev pub views_called : List Made → List View
views_called made = views_from [] made

-- neither the ready handler nor a step was called
abbrev pub is_unstarted : List Made → Bool
is_unstarted before = list_all (λ one. is_message one.call) before

-- what a script asks for in a call, behind these. A ready handler that isn't the first, or comes behind a step, asks for nothing
abbrev pub asked_for : Script → List Made → Call → List Action
asked_for script before calls.Ready = if is_unstarted before then script.ready else []
asked_for script before (calls.Step n t) = script.step (views_called before) (view_behind before t)
asked_for script before (calls.Message p place r m) = []

-- each call behind these asked for what the script says
abbrev pub PlayedFrom : Script → List Made → List Made → Type 0
PlayedFrom script before [] = Unit {0}
PlayedFrom script before (one ∷ more) = AsksFor one (asked_for script before one.call) × PlayedFrom script (before ++ one ∷ []) more

-- each call asked for what the script says
abbrev pub HasPlayed : Script → List Made → Type 0
HasPlayed script made = PlayedFrom script [] made
