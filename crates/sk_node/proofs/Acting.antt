-- What an action comes to, with the state of its service taken out.
use Rattle.std.specs.Prelude.{◌≡◌, refl, ℕ, zero, suc, List, [], ◌∷◌, Option, Some, None, slice_get}
use Rattle.std.proofs.Common.{ap, sym, ◌∙◌, subst}
use Rattle.sk_msg.specs.declared.action.Action.{Action}
use Rattle.sk_msg.specs.declared.action.Action.TheVariants.{CanBaud, CanStart, CanStop, CanReset, CanSleep, CanSend, EthActivate, EthDeactivate, EthSend, LinInit, LinSetResponse, LinHeader, LinSendFrame, LinSleep, LinWakeup, Publish, Call, Submit, Ask, PauseFor}
use Rattle.sk_msg.specs.declared.command.Command.{Command}
use Rattle.sk_msg.specs.declared.entry.Entry.TheVariants.{Did}
use Rattle.sk_msg.specs.declared.service.Service.{Service}
use Rattle.sk_law.specs.declared.memory.ServiceState.{ServiceState}
use Rattle.sk_law.specs.declared.memory.ServiceState.TheVariants as states
use Rattle.sk_law.specs.declared.setup.Setup.{Setup}
use Rattle.sk_law.specs.Blocks.{did, put_some}
use Rattle.sk_law.specs.Growing.{BlocksAdd}
use Rattle.sk_law.specs.Outcomes.{Outcome, named, outcome, outcome_at, outcome_of, refused}
use Rattle.sk_law.specs.Past.{Past, add}
use Rattle.sk_law.specs.Receivers.{changed, with_services}
use Rattle.sk_law.specs.Kept.{Kept, grown}
use Rattle.sk_node.specs.Acting.{comes_to}
use Rattle.sk_node.specs.Lists.{Lists, Whole, Part}
use Rattle.sk_node.proofs.Cuts.{adds_same}
use Rattle.sk_node.proofs.Wholes.{part_is, part_then, whole_is, whole_none, whole_then}

-- the state of this service is taken out
abbrev pub taken_out : ℕ → Past → Past
taken_out s past = with_services (changed (λ at. states.Subscriber) s past.memory.services) past

-- what is put back stands in its place
put_back : (x y : ServiceState) (s : ℕ) (xs : List ServiceState) → changed (λ at. x) s (changed (λ at. y) s xs) ≡ changed (λ at. x) s xs
put_back x y s [] = refl
put_back x y zero (z ∷ xs) = refl
put_back x y (suc s) (z ∷ xs) = ap (λ l. z ∷ l) (put_back x y s xs)

did_again : (s : ℕ) (o : Outcome) (past : Past) → did s o (taken_out s past) ≡ did s o past
did_again s o past = ap (λ l. put_some o.to o.message (add (Did s o.code o.message) (with_services l past))) (put_back o.state states.Subscriber s past.memory.services)

-- what an action comes to doesn't hang on what the services are at
same_outcome : (S : Setup) (past : Past) (l : List ServiceState) (a : Action) (own : Service) (at : ServiceState) → outcome_at S (with_services l past) a own at ≡ outcome_at S past a own at
unfolding outcome_at
same_outcome S past l (CanBaud s rate) own at = refl
same_outcome S past l (CanStart s) own at = refl
same_outcome S past l (CanStop s) own at = refl
same_outcome S past l (CanReset s) own at = refl
same_outcome S past l (CanSleep s) own at = refl
same_outcome S past l (CanSend s frame) own at = refl
same_outcome S past l (EthActivate s) own at = refl
same_outcome S past l (EthDeactivate s) own at = refl
same_outcome S past l (EthSend s frame) own at = refl
same_outcome S past l (LinInit s role) own at = refl
same_outcome S past l (LinSetResponse s response) own at = refl
same_outcome S past l (LinHeader s id) own at = refl
same_outcome S past l (LinSendFrame s response) own at = refl
same_outcome S past l (LinSleep s) own at = refl
same_outcome S past l (LinWakeup s) own at = refl
same_outcome S past l (Publish s payload) own at = refl
same_outcome S past l (Call s payload) own at = refl
same_outcome S past l (Submit s peer client call payload) own at = refl
same_outcome S past l (Ask command) own at = refl
same_outcome S past l (PauseFor count) own at = refl

same_of : (S : Setup) (past : Past) (l : List ServiceState) (a : Action) (own : Option Service) (at : ServiceState) → outcome_of S (with_services l past) a own (Some at) ≡ outcome_of S past a own (Some at)
same_of S past l a None at = refl
same_of S past l a (Some own) at = same_outcome S past l a own at

no_state : (S : Setup) (past : Past) (a : Action) (own : Option Service) → outcome_of S past a own None ≡ refused 1 states.Subscriber
no_state S past a None = refl
no_state S past a (Some own) = refl

-- there was a state
found_is : (S : Setup) (past : Past) (s : ℕ) (a : Action) (at : ServiceState) → s ≡ named a → Some at ≡ slice_get past.memory.services s →
    did (named a) (comes_to S (taken_out s past) a at) (taken_out s past) ≡ did (named a) (outcome S past a) past
found_is S past s a at e h =
    ap (λ n. did (named a) (comes_to S (taken_out s past) a at) (taken_out n past)) e
    ∙ did_again (named a) (comes_to S (taken_out s past) a at) past
    ∙ ap (λ o. did (named a) o past) (same_of S past (changed (λ at. states.Subscriber) s past.memory.services) a (slice_get S.services (named a)) at
    ∙ ap (outcome_of S past a (slice_get S.services (named a))) (h ∙ ap (slice_get past.memory.services) e))

-- there was none
unfound_is : (S : Setup) (past : Past) (s : ℕ) (a : Action) → s ≡ named a → None ≡ slice_get past.memory.services s →
    did s (refused 1 states.Subscriber) (taken_out s past) ≡ did (named a) (outcome S past a) past
unfound_is S past s a e h =
    did_again s (refused 1 states.Subscriber) past
    ∙ ap (λ n. did n (refused 1 states.Subscriber) past) e
    ∙ ap (λ o. did (named a) o past) (sym (ap (outcome_of S past a (slice_get S.services (named a))) (sym (h ∙ ap (slice_get past.memory.services) e)) ∙ no_state S past a (slice_get S.services (named a))))

-- ## The exits of what carries an action out

pub whole_found : (old middle new : Kept) (s : ℕ) (a : Action) (at : ServiceState) (was now : Lists) → s ≡ named a → Some at ≡ slice_get old.past.memory.services s →
    middle ≡ grown (taken_out s old.past) old → Whole middle new (did (named a) (comes_to middle.setup middle.past a at) middle.past) was now →
    Whole old new (did (named a) (outcome old.setup old.past a) old.past) was now
whole_found old middle new s a at was now e h t w =
    whole_is (found_is old.setup old.past s a at e h) (whole_then (λ S past. did (named a) (comes_to S past a at) past) (whole_none t refl) w)

pub part_found : (old middle new : Kept) (s : ℕ) (a : Action) (at : ServiceState) (was now : Lists) → s ≡ named a → Some at ≡ slice_get old.past.memory.services s →
    middle ≡ grown (taken_out s old.past) old → Part middle new (did (named a) (comes_to middle.setup middle.past a at) middle.past) was now →
    Part old new (did (named a) (outcome old.setup old.past a) old.past) was now
part_found old middle new s a at was now e h t w =
    part_is (found_is old.setup old.past s a at e h) (part_then (λ S past. did (named a) (comes_to S past a at) past) (whole_none t refl) (adds_same refl) w)

pub whole_unfound : (old middle new : Kept) (s : ℕ) (a : Action) (was now : Lists) → s ≡ named a → None ≡ slice_get old.past.memory.services s →
    middle ≡ grown (taken_out s old.past) old → Whole middle new (did s (refused 1 states.Subscriber) middle.past) was now →
    Whole old new (did (named a) (outcome old.setup old.past a) old.past) was now
whole_unfound old middle new s a was now e h t w =
    whole_is (unfound_is old.setup old.past s a e h) (whole_then (λ S past. did s (refused 1 states.Subscriber) past) (whole_none t refl) w)

pub part_unfound : (old middle new : Kept) (s : ℕ) (a : Action) (was now : Lists) → s ≡ named a → None ≡ slice_get old.past.memory.services s →
    middle ≡ grown (taken_out s old.past) old → Part middle new (did s (refused 1 states.Subscriber) middle.past) was now →
    Part old new (did (named a) (outcome old.setup old.past a) old.past) was now
part_unfound old middle new s a was now e h t w =
    part_is (unfound_is old.setup old.past s a e h) (part_then (λ S past. did s (refused 1 states.Subscriber) past) (whole_none t refl) (adds_same refl) w)

-- ## Commands, which name no service

no_command : (S : Setup) (past : Past) (command : Command) (own : Service) (at : ServiceState) → refused 1 at ≡ outcome_at S past (Ask command) own at
unfolding outcome_at
no_command S past command own at = refl

no_pause : (S : Setup) (past : Past) (count : ℕ) (own : Service) (at : ServiceState) → refused 1 at ≡ outcome_at S past (PauseFor count) own at
unfolding outcome_at
no_pause S past count own at = refl

pub asked_is : (S : Setup) (past : Past) (a : Action) (command : Command) (own : Service) (at : ServiceState) → a ≡ Ask command → refused 1 at ≡ outcome_at S past a own at
asked_is S past a command own at e = subst (λ x. refused 1 at ≡ outcome_at S past x own at) (sym e) (no_command S past command own at)

pub paused_is : (S : Setup) (past : Past) (a : Action) (count : ℕ) (own : Service) (at : ServiceState) → a ≡ PauseFor count → refused 1 at ≡ outcome_at S past a own at
paused_is S past a count own at e = subst (λ x. refused 1 at ≡ outcome_at S past x own at) (sym e) (no_pause S past count own at)
