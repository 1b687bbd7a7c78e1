-- The table of actions, as in docs/FORMATS.md: what each one's first key is, which kind of service it is of, and where it
-- may stand.
use Rattle.std.specs.Prelude.{ℕ, Bool, true, false, ◌||◌, List, [], ◌∷◌, codes, Option, Some, None, if◌then◌else◌}
use Rattle.serde_json.specs.Data.{Data}
use Rattle.sk_msg.specs.declared.service.ServiceKind.{ServiceKind}
use Rattle.sk_msg.specs.declared.service.ServiceKind.TheVariants as kinds
use Rattle.sk_rules.specs.Fields.{has}
use Rattle.sk_rules.specs.Places.{is_step, is_on, is_on_server}
use Rattle.sk_rules.specs.declared.place.Place.{Place}
use Rattle.sk_rules.specs.declared.verb.ServiceVerb.{ServiceVerb}
use Rattle.sk_rules.specs.declared.verb.ServiceVerb.TheVariants.{CanBaud, CanStart, CanStop, CanReset, CanSleep, CanSend, EthActivate, EthDeactivate, EthSend, LinInit, LinResponse, LinHeader, LinFrame, LinSleep, LinWakeup, Publish, Call, Reply}
use Rattle.sk_rules.specs.declared.verb.Verb.{Verb}
use Rattle.sk_rules.specs.declared.verb.Verb.TheVariants.{Of, Set, Add, Take, Pause, Stop, Error}

-- the kind of service that it is of
abbrev pub kind_of : ServiceVerb → ServiceKind
kind_of CanBaud = kinds.Can
kind_of CanStart = kinds.Can
kind_of CanStop = kinds.Can
kind_of CanReset = kinds.Can
kind_of CanSleep = kinds.Can
kind_of CanSend = kinds.Can
kind_of EthActivate = kinds.Ethernet
kind_of EthDeactivate = kinds.Ethernet
kind_of EthSend = kinds.Ethernet
kind_of LinInit = kinds.Lin
kind_of LinResponse = kinds.Lin
kind_of LinHeader = kinds.Lin
kind_of LinFrame = kinds.Lin
kind_of LinSleep = kinds.Lin
kind_of LinWakeup = kinds.Lin
kind_of Publish = kinds.Publisher
kind_of Call = kinds.Client
kind_of Reply = kinds.Server

-- its first key, whose value is a service
abbrev pub service_key : ServiceVerb → List ℕ
service_key CanBaud = codes "can_baud"
service_key CanStart = codes "can_start"
service_key CanStop = codes "can_stop"
service_key CanReset = codes "can_reset"
service_key CanSleep = codes "can_sleep"
service_key CanSend = codes "can_send"
service_key EthActivate = codes "eth_activate"
service_key EthDeactivate = codes "eth_deactivate"
service_key EthSend = codes "eth_send"
service_key LinInit = codes "lin_init"
service_key LinResponse = codes "lin_response"
service_key LinHeader = codes "lin_header"
service_key LinFrame = codes "lin_frame"
service_key LinSleep = codes "lin_sleep"
service_key LinWakeup = codes "lin_wakeup"
service_key Publish = codes "publish"
service_key Call = codes "call"
service_key Reply = codes "reply"

-- the first key of each
abbrev pub verb_key : Verb → List ℕ
verb_key (Of verb) = service_key verb
verb_key Set = codes "set"
verb_key Add = codes "add"
verb_key Take = codes "take"
verb_key Pause = codes "pause"
verb_key Stop = codes "stop"
verb_key Error = codes "error"

-- all of them
abbrev pub verbs : List Verb
verbs =
    Of CanBaud ∷ Of CanStart ∷ Of CanStop ∷ Of CanReset ∷ Of CanSleep ∷ Of CanSend
    ∷ Of EthActivate ∷ Of EthDeactivate ∷ Of EthSend
    ∷ Of LinInit ∷ Of LinResponse ∷ Of LinHeader ∷ Of LinFrame ∷ Of LinSleep ∷ Of LinWakeup
    ∷ Of Publish ∷ Of Call ∷ Of Reply ∷ Set ∷ Add ∷ Take ∷ Pause ∷ Stop ∷ Error ∷ []

-- it may stand where a participant gets ready, too
abbrev pub is_of_both : ServiceVerb → Bool
is_of_both CanBaud = true
is_of_both CanStart = true
is_of_both CanStop = true
is_of_both CanReset = true
is_of_both CanSleep = true
is_of_both CanSend = false
is_of_both EthActivate = true
is_of_both EthDeactivate = true
is_of_both EthSend = false
is_of_both LinInit = true
is_of_both LinResponse = true
is_of_both LinHeader = false
is_of_both LinFrame = false
is_of_both LinSleep = true
is_of_both LinWakeup = true
is_of_both Publish = false
is_of_both Call = false
is_of_both Reply = false

-- it answers a call
abbrev pub is_reply : ServiceVerb → Bool
is_reply Reply = true
is_reply CanBaud = false
is_reply CanStart = false
is_reply CanStop = false
is_reply CanReset = false
is_reply CanSleep = false
is_reply CanSend = false
is_reply EthActivate = false
is_reply EthDeactivate = false
is_reply EthSend = false
is_reply LinInit = false
is_reply LinResponse = false
is_reply LinHeader = false
is_reply LinFrame = false
is_reply LinSleep = false
is_reply LinWakeup = false
is_reply Publish = false
is_reply Call = false

-- it may stand here, where its first key names this server, if it names one
abbrev pub may_stand : Verb → Place → Option ℕ → Bool
may_stand (Of verb) place named =
    if is_reply verb then is_on_server place named else (is_of_both verb || is_step place)
may_stand Set place named = true
may_stand Add place named = true
may_stand Take place named = is_on place
may_stand Pause place named = is_step place
may_stand Stop place named = is_step place
may_stand Error place named = is_step place

-- the one whose key the object has, where it has only one of these and this one is what it had of others
abbrev pub only_of : Option Verb → List Verb → Data → Option Verb
only_of seen [] d = seen
only_of None (verb ∷ later) d = only_of (if has (verb_key verb) d then Some verb else None) later d
only_of (Some one) (verb ∷ later) d = if has (verb_key verb) d then None else only_of (Some one) later d

-- the one whose key the object has, where it has only one such key
unfoldable pub only_verb : Data → Option Verb
only_verb d = only_of None verbs d
