-- What a block is where the code has decided a test of it.
use Rattle.std.specs.Prelude.{◌≡◌, ◌-◌, refl, ℕ, max, nat_le, Bool, true, false, not, Some, None, length, if◌then◌else◌}
use Rattle.std.proofs.Common.{ap, sym, ◌∙◌}
use Rattle.sk_msg.specs.declared.command.Command.{Command}
use Rattle.sk_msg.specs.declared.command.Command.TheVariants.{Pause, Continue}
use Rattle.sk_msg.specs.declared.command.Verdict.TheVariants.{Refused}
use Rattle.sk_msg.specs.declared.entry.Entry.TheVariants.{Ask, Gone}
use Rattle.sk_msg.specs.declared.state.State.{State}
use Rattle.sk_msg.specs.declared.state.State.TheVariants.{Running, Error}
use Rattle.sk_msg.specs.Edges.{has_edge, led_to}
use Rattle.sk_msg.specs.States.{is_state}
use Rattle.sk_law.specs.declared.setup.Setup.{Setup}
use Rattle.sk_law.specs.Past.{Past, add}
use Rattle.sk_law.specs.Readings.{state_of, payload}
use Rattle.sk_law.specs.Links.{is_peer}
use Rattle.sk_law.specs.Growing.{Adds}
use Rattle.sk_law.specs.Blocks.{enter, enter_if, with_pause, ask, asked, pause_for, count_down, fault, lose, judge_limits}
use Rattle.sk_node.proofs.Cuts.{adds_same}

-- there is no edge
pub not_entered : (S : Setup) (to : State) (past : Past) (state : State) (edge : Bool) → state ≡ state_of past.journal → edge ≡ has_edge state to → edge ≡ false → past ≡ enter_if S to past
unfolding enter_if
not_entered S to past state edge s e f = ap (λ x. if x then enter S to past else past) (sym f ∙ e ∙ ap (λ x. has_edge x to) s)

-- the command leads nowhere
pub refused_is : (S : Setup) (command : Command) (past : Past) (state : State) → state ≡ state_of past.journal → None ≡ led_to state command →
    add (Ask command (Refused state)) past ≡ ask S command past
unfolding ask
refused_is S command past state s e =
    ap (λ x. add (Ask command (Refused x)) past) s ∙ ap (λ x. asked S command x past) (e ∙ ap (λ x. led_to x command) s)

-- a count begins behind Pause, or none does
pub adds_pause : (S : Setup) (count : ℕ) (past : Past) → Adds (ask S Pause past) (pause_for S count past)
unfolding pause_for
adds_pause S count past = on (is_state Running (state_of past.journal))
  where
    on : (runs : Bool) → Adds (ask S Pause past) (if runs then with_pause (Some (max count 1)) (ask S Pause past) else ask S Pause past)
    on true = adds_same refl
    on false = adds_same refl

pub paused_is : (S : Setup) (count : ℕ) (past : Past) (state : State) (runs now : Bool) → state ≡ state_of past.journal → runs ≡ is_state Running state → runs ≡ now →
    (if now then with_pause (Some (max count 1)) (ask S Pause past) else ask S Pause past) ≡ pause_for S count past
unfolding pause_for
paused_is S count past state runs now s e f =
    ap (λ x. if x then with_pause (Some (max count 1)) (ask S Pause past) else ask S Pause past) (sym f ∙ e ∙ ap (λ x. is_state Running x) s)

-- a peer's link, or a tool's
pub lost_is : (S : Setup) (p reason : ℕ) (past : Past) (peer now : Bool) → peer ≡ is_peer S p → peer ≡ now →
    (if now then enter_if S Error (add (Gone p reason) past) else add (Gone p reason) past) ≡ lose S p reason past
unfolding lose
lost_is S p reason past peer now e f = ap (λ x. if x then enter_if S Error (add (Gone p reason) past) else add (Gone p reason) past) (sym f ∙ e)

-- within the limits, or out of Error's reach
pub unlimited_is : (S : Setup) (past : Past) (state : State) (edge : Bool) → state ≡ state_of past.journal → edge ≡ has_edge state Error → edge ≡ false → past ≡ judge_limits S past
unfolding judge_limits
unlimited_is S past state edge s e f =
    ap (λ x. if x then past else if nat_le 500000 (length past.journal) then fault S 3 past else if nat_le 33554432 (payload past.journal) then fault S 4 past else past)
    (ap not (sym f ∙ e ∙ ap (λ x. has_edge x Error) s))

pub limited_is : (S : Setup) (past : Past) (state : State) (edge long heavy : Bool) → state ≡ state_of past.journal → edge ≡ has_edge state Error → edge ≡ true →
    long ≡ nat_le 500000 (length past.journal) → heavy ≡ nat_le 33554432 (payload past.journal) →
    (if long then fault S 3 past else if heavy then fault S 4 past else past) ≡ judge_limits S past
unfolding judge_limits
limited_is S past state edge long heavy s e f l h =
    ap (λ x. if x then fault S 3 past else if heavy then fault S 4 past else past) l
    ∙ ap (λ x. if nat_le 500000 (length past.journal) then fault S 3 past else if x then fault S 4 past else past) h
    ∙ ap (λ x. if x then past else if nat_le 500000 (length past.journal) then fault S 3 past else if nat_le 33554432 (payload past.journal) then fault S 4 past else past)
    (ap not (sym f ∙ e ∙ ap (λ x. has_edge x Error) s))

-- the count is at its end, or goes down
pub counted_is : (S : Setup) (count : ℕ) (past : Past) (now : Bool) → nat_le count 1 ≡ now →
    (if now then ask S Continue past else with_pause (Some (count - 1)) past) ≡ count_down S count past
unfolding count_down
counted_is S count past now e = ap (λ x. if x then ask S Continue past else with_pause (Some (count - 1)) past) (sym e)
