-- Equal lines are those of equal entries.
use Rattle.std.proofs.Common.{◌≡◌, ℕ, ◌+◌, ◌*◌, ◌^◌, ◌<◌, Bool, true, false, eqb, List, [], ◌∷◌, ◌++◌, get_or, Option, Some, None, refl, ap, arith}
use Rattle.std.specs.Prelude.{not, ◌&&◌, codes, decimal, IsTrue}
use Rattle.std.proofs.lemmas.Bool.{and_from, eqb-false, leb-true}
use Rattle.std.proofs.lemmas.Fmt.{decimal_injective}
use Rattle.sk_base.specs.Ranges.{is_time}
use Rattle.sk_msg.specs.StateNames.{state_name}
use Rattle.sk_msg.specs.declared.state.State.{State}
use Rattle.sk_msg.specs.declared.state.State.TheVariants as states
use Rattle.sk_msg.specs.declared.command.Command.{Command}
use Rattle.sk_msg.specs.declared.command.Command.TheVariants as commands
use Rattle.sk_msg.specs.declared.command.Verdict.{Verdict}
use Rattle.sk_msg.specs.declared.command.Verdict.TheVariants.{Accepted, Refused}
use Rattle.sk_msg.specs.declared.content.Content.{Content}
use Rattle.sk_msg.specs.declared.content.Content.TheVariants.{Hello, Leave, NextStep, ServiceAdd, ServicesEnd, Status, Workflow, Abort, Can, Eth, Lin, LinResponse, Publish, Call, Reply, Refuse}
use Rattle.sk_msg.specs.declared.entry.Entry.{Entry}
use Rattle.sk_msg.specs.declared.entry.Entry.TheVariants.{Got, Put, Hand, State as Entered, System, Begin, Done, End, Ask, Gone, Stray, Did, Fault}
use Rattle.sk_wire.specs.Grammar.{spelling}
use Rattle.sk_text.specs.Words.{kind_name, command_name}
use Rattle.sk_text.specs.Kept.{IsEntry}
use Rattle.sk_text.specs.Lines.{line, entry_line, ask_line, message_hex, sent_hex}
use Rattle.sk_text.proofs.Cuts.{is_word, are_words, decimal_word, hex_word}
use Rattle.sk_text.proofs.Spelled.{OneSpelling, same_message, same_sent}

-- ---- an entry's words

abbrev pub first_word : Entry → List ℕ
first_word (Got peer m) = codes "got"
first_word (Put peer m) = codes "put"
first_word (Hand peer place service) = codes "hand"
first_word (Entered state) = codes "state"
first_word (System state) = codes "system"
first_word (Begin step at) = codes "begin"
first_word (Done step) = codes "done"
first_word (End step) = codes "end"
first_word (Ask command verdict) = codes "ask"
first_word (Gone peer reason) = codes "gone"
first_word (Stray number) = codes "stray"
first_word (Did service code sent) = codes "did"
first_word (Fault limit) = codes "fault"

abbrev verdict_words : Verdict → List (List ℕ)
verdict_words Accepted = codes "accepted" ∷ []
verdict_words (Refused state) = codes "refused" ∷ state_name state ∷ []

abbrev pub other_words : Entry → List (List ℕ)
other_words (Got peer m) = decimal peer ∷ kind_name m ∷ message_hex m ∷ []
other_words (Put peer m) = decimal peer ∷ kind_name m ∷ message_hex m ∷ []
other_words (Hand peer place service) = decimal peer ∷ decimal place ∷ decimal service ∷ []
other_words (Entered state) = state_name state ∷ []
other_words (System state) = state_name state ∷ []
other_words (Begin step at) = decimal step ∷ decimal at ∷ []
other_words (Done step) = decimal step ∷ []
other_words (End step) = decimal step ∷ []
other_words (Ask command verdict) = command_name command ∷ verdict_words verdict
other_words (Gone peer reason) = decimal peer ∷ decimal reason ∷ []
other_words (Stray number) = decimal number ∷ []
other_words (Did service code sent) = decimal service ∷ decimal code ∷ sent_hex sent ∷ []
other_words (Fault limit) = decimal limit ∷ []

ask_words : (command : Command) (verdict : Verdict) → ask_line command verdict ≡ line (codes "ask" ∷ command_name command ∷ verdict_words verdict)
unfolding ask_line
ask_words command Accepted = refl
ask_words command (Refused state) = refl

pub line_words : (entry : Entry) → entry_line entry ≡ line (first_word entry ∷ other_words entry)
unfolding entry_line
line_words (Got peer m) = refl
line_words (Put peer m) = refl
line_words (Hand peer place service) = refl
line_words (Entered state) = refl
line_words (System state) = refl
line_words (Begin step at) = refl
line_words (Done step) = refl
line_words (End step) = refl
line_words (Ask command verdict) = ask_words command verdict
line_words (Gone peer reason) = refl
line_words (Stray number) = refl
line_words (Did service code sent) = refl
line_words (Fault limit) = refl

-- ---- they are words

state_word : (state : State) → is_word (state_name state) ≡ true
unfolding state_name
state_word states.Invalid = refl
state_word states.ServicesCreated = refl
state_word states.CommunicationInitializing = refl
state_word states.CommunicationInitialized = refl
state_word states.ReadyToRun = refl
state_word states.Running = refl
state_word states.Paused = refl
state_word states.Stopping = refl
state_word states.Stopped = refl
state_word states.Error = refl
state_word states.ShuttingDown = refl
state_word states.Shutdown = refl
state_word states.Aborting = refl

command_word : (command : Command) → is_word (command_name command) ≡ true
unfolding command_name
command_word commands.Pause = refl
command_word commands.Continue = refl
command_word commands.Stop = refl
command_word commands.ReportError = refl
command_word commands.Abort = refl

kind_word : (m : Content) → is_word (kind_name m) ≡ true
unfolding kind_name
kind_word (Hello name role address) = refl
kind_word Leave = refl
kind_word (NextStep at duration) = refl
kind_word (ServiceAdd service) = refl
kind_word ServicesEnd = refl
kind_word (Status state until) = refl
kind_word (Workflow required) = refl
kind_word Abort = refl
kind_word (Can head frame) = refl
kind_word (Eth head payload) = refl
kind_word (Lin head frame) = refl
kind_word (LinResponse head response) = refl
kind_word (Publish head payload) = refl
kind_word (Call head call payload) = refl
kind_word (Reply head client call payload) = refl
kind_word (Refuse reason) = refl

message_word : (m : Content) → is_word (message_hex m) ≡ true
unfolding message_hex
message_word m = hex_word (spelling m)

sent_word : (sent : Option Content) → is_word (sent_hex sent) ≡ true
unfolding sent_hex
sent_word (Some m) = message_word m
sent_word None = refl

-- one word more in front
more_words : (word : List ℕ) (words : List (List ℕ)) → is_word word ≡ true → are_words words ≡ true → are_words (word ∷ words) ≡ true
more_words word words h hs = and_from (is_word word) (are_words words) h hs

-- a number in front
number_words : (n : ℕ) (words : List (List ℕ)) → are_words words ≡ true → are_words (decimal n ∷ words) ≡ true
number_words n words hs = more_words (decimal n) words (decimal_word n) hs

verdict_are_words : (verdict : Verdict) → are_words (verdict_words verdict) ≡ true
verdict_are_words Accepted = refl
verdict_are_words (Refused state) = more_words (state_name state) [] (state_word state) refl

message_words : (peer : ℕ) (m : Content) → are_words (decimal peer ∷ kind_name m ∷ message_hex m ∷ []) ≡ true
message_words peer m =
    let hex = more_words (message_hex m) [] (message_word m) refl in
    number_words peer (kind_name m ∷ message_hex m ∷ []) (more_words (kind_name m) (message_hex m ∷ []) (kind_word m) hex)

pub entry_words : (entry : Entry) → are_words (first_word entry ∷ other_words entry) ≡ true
entry_words (Got peer m) = message_words peer m
entry_words (Put peer m) = message_words peer m
entry_words (Hand peer place service) =
    number_words peer (decimal place ∷ decimal service ∷ []) (number_words place (decimal service ∷ []) (number_words service [] refl))
entry_words (Entered state) = more_words (state_name state) [] (state_word state) refl
entry_words (System state) = more_words (state_name state) [] (state_word state) refl
entry_words (Begin step at) = number_words step (decimal at ∷ []) (number_words at [] refl)
entry_words (Done step) = number_words step [] refl
entry_words (End step) = number_words step [] refl
entry_words (Ask command verdict) = more_words (command_name command) (verdict_words verdict) (command_word command) (verdict_are_words verdict)
entry_words (Gone peer reason) = number_words peer (decimal reason ∷ []) (number_words reason [] refl)
entry_words (Stray number) = number_words number [] refl
entry_words (Did service code sent) =
    number_words service (decimal code ∷ sent_hex sent ∷ []) (number_words code (sent_hex sent ∷ []) (more_words (sent_hex sent) [] (sent_word sent) refl))
entry_words (Fault limit) = number_words limit [] refl

-- ---- a word as a number, which tells fixed words apart

abbrev word_number : List ℕ → ℕ
word_number [] = 0
word_number (c ∷ cs) = c + 256 * word_number cs

differ : (w v : List ℕ) → w ≡ v → eqb (word_number w) (word_number v) ≡ false → ⊥
differ w v e apart = eqb-false (word_number w) (word_number v) apart (ap word_number e)

same_state : (s t : State) → state_name s ≡ state_name t → s ≡ t
unfolding state_name
same_state states.Invalid states.Invalid e = refl
same_state states.Invalid t e = absurd (differ _ _ e refl)
same_state states.ServicesCreated states.ServicesCreated e = refl
same_state states.ServicesCreated t e = absurd (differ _ _ e refl)
same_state states.CommunicationInitializing states.CommunicationInitializing e = refl
same_state states.CommunicationInitializing t e = absurd (differ _ _ e refl)
same_state states.CommunicationInitialized states.CommunicationInitialized e = refl
same_state states.CommunicationInitialized t e = absurd (differ _ _ e refl)
same_state states.ReadyToRun states.ReadyToRun e = refl
same_state states.ReadyToRun t e = absurd (differ _ _ e refl)
same_state states.Running states.Running e = refl
same_state states.Running t e = absurd (differ _ _ e refl)
same_state states.Paused states.Paused e = refl
same_state states.Paused t e = absurd (differ _ _ e refl)
same_state states.Stopping states.Stopping e = refl
same_state states.Stopping t e = absurd (differ _ _ e refl)
same_state states.Stopped states.Stopped e = refl
same_state states.Stopped t e = absurd (differ _ _ e refl)
same_state states.Error states.Error e = refl
same_state states.Error t e = absurd (differ _ _ e refl)
same_state states.ShuttingDown states.ShuttingDown e = refl
same_state states.ShuttingDown t e = absurd (differ _ _ e refl)
same_state states.Shutdown states.Shutdown e = refl
same_state states.Shutdown t e = absurd (differ _ _ e refl)
same_state states.Aborting states.Aborting e = refl
same_state states.Aborting t e = absurd (differ _ _ e refl)

same_command : (c d : Command) → command_name c ≡ command_name d → c ≡ d
unfolding command_name
same_command commands.Pause commands.Pause e = refl
same_command commands.Pause d e = absurd (differ _ _ e refl)
same_command commands.Continue commands.Continue e = refl
same_command commands.Continue d e = absurd (differ _ _ e refl)
same_command commands.Stop commands.Stop e = refl
same_command commands.Stop d e = absurd (differ _ _ e refl)
same_command commands.ReportError commands.ReportError e = refl
same_command commands.ReportError d e = absurd (differ _ _ e refl)
same_command commands.Abort commands.Abort e = refl
same_command commands.Abort d e = absurd (differ _ _ e refl)

same_verdict : (v w : Verdict) → verdict_words v ≡ verdict_words w → v ≡ w
same_verdict Accepted Accepted e = refl
same_verdict Accepted (Refused t) e = absurd cc
same_verdict (Refused s) Accepted e = absurd cc
same_verdict (Refused s) (Refused t) e = let names : state_name s ≡ state_name t = cc in ap Refused (same_state s t names)

-- ---- entries of one kind, by their other words

same_time : (a b : ℕ) → IsTrue (is_time a) → IsTrue (is_time b) → decimal a ≡ decimal b → a ≡ b
unfolding is_time
same_time a b ha hb e =
    let la = leb-true a (2 ^ 62) ha in
    let lb = leb-true b (2 ^ 62) hb in
    decimal_injective a b (omega arith) (omega arith) e

-- a number of at most 64 bits
same_number : (a b : ℕ) → a < 2 ^ 64 → b < 2 ^ 64 → decimal a ≡ decimal b → a ≡ b
same_number a b ha hb e = decimal_injective a b ha hb e

module _ (law : OneSpelling) where
  same_got : (p q : ℕ) (m n : Content) → IsEntry (Got p m) → IsEntry (Got q n) → other_words (Got p m) ≡ other_words (Got q n) → (p ≡ q) × (m ≡ n)
  same_got p q m n he hf e =
      let peers : decimal p ≡ decimal q = cc in
      let hexes : message_hex m ≡ message_hex n = cc in
      (same_number p q (omega (arith, he.0)) (omega (arith, hf.0)) peers, same_message law m n he.1 hf.1 hexes)

  same_did : (p q a b : ℕ) (m n : Option Content) → IsEntry (Did p a m) → IsEntry (Did q b n)
      → other_words (Did p a m) ≡ other_words (Did q b n) → Did p a m ≡ Did q b n
  same_did p q a b m n he hf e =
      let services : decimal p ≡ decimal q = cc in
      let answers : decimal a ≡ decimal b = cc in
      let hexes : sent_hex m ≡ sent_hex n = cc in
      let x : p ≡ q = same_number p q (omega (arith, he.0)) (omega (arith, hf.0)) services in
      let y : a ≡ b = same_number a b (omega (arith, he.1)) (omega (arith, hf.1)) answers in
      let z : m ≡ n = same_sent law m n he.2 hf.2 hexes in
      cc

  same_hand : (p q a b s t : ℕ) → IsEntry (Hand p a s) → IsEntry (Hand q b t) → other_words (Hand p a s) ≡ other_words (Hand q b t) → Hand p a s ≡ Hand q b t
  same_hand p q a b s t he hf e =
      let peers : decimal p ≡ decimal q = cc in
      let places : decimal a ≡ decimal b = cc in
      let services : decimal s ≡ decimal t = cc in
      let x : p ≡ q = same_number p q (omega (arith, he.0)) (omega (arith, hf.0)) peers in
      let y : a ≡ b = same_number a b he.1 hf.1 places in
      let z : s ≡ t = same_number s t (omega (arith, he.2)) (omega (arith, hf.2)) services in
      cc

  pub same_entry : (x y : Entry) → IsEntry x → IsEntry y → first_word x ≡ first_word y → other_words x ≡ other_words y → x ≡ y
  same_entry (Got p m) (Got q n) he hf w e = let same = same_got p q m n he hf e in let a : p ≡ q = same.0 in let b : m ≡ n = same.1 in cc
  same_entry (Got p m) y he hf w e = absurd (differ _ _ w refl)
  same_entry (Put p m) (Put q n) he hf w e = let same = same_got p q m n he hf e in let a : p ≡ q = same.0 in let b : m ≡ n = same.1 in cc
  same_entry (Put p m) y he hf w e = absurd (differ _ _ w refl)
  same_entry (Hand p a s) (Hand q b t) he hf w e = same_hand p q a b s t he hf e
  same_entry (Hand p a s) y he hf w e = absurd (differ _ _ w refl)
  same_entry (Entered s) (Entered t) he hf w e = let names : state_name s ≡ state_name t = cc in ap Entered (same_state s t names)
  same_entry (Entered s) y he hf w e = absurd (differ _ _ w refl)
  same_entry (System s) (System t) he hf w e = let names : state_name s ≡ state_name t = cc in ap System (same_state s t names)
  same_entry (System s) y he hf w e = absurd (differ _ _ w refl)
  same_entry (Begin s a) (Begin t b) he hf w e =
      let steps : decimal s ≡ decimal t = cc in
      let times : decimal a ≡ decimal b = cc in
      let x : s ≡ t = same_number s t he.0 hf.0 steps in
      let y : a ≡ b = same_time a b he.1 hf.1 times in
      cc
  same_entry (Begin s a) y he hf w e = absurd (differ _ _ w refl)
  same_entry (Done s) (Done t) he hf w e = let steps : decimal s ≡ decimal t = cc in ap Done (same_number s t he hf steps)
  same_entry (Done s) y he hf w e = absurd (differ _ _ w refl)
  same_entry (End s) (End t) he hf w e = let steps : decimal s ≡ decimal t = cc in ap End (same_number s t he hf steps)
  same_entry (End s) y he hf w e = absurd (differ _ _ w refl)
  same_entry (Ask c v) (Ask d u) he hf w e =
      let commands : command_name c ≡ command_name d = cc in
      let verdicts : verdict_words v ≡ verdict_words u = cc in
      let x : c ≡ d = same_command c d commands in
      let y : v ≡ u = same_verdict v u verdicts in
      cc
  same_entry (Ask c v) y he hf w e = absurd (differ _ _ w refl)
  same_entry (Gone p a) (Gone q b) he hf w e =
      let peers : decimal p ≡ decimal q = cc in
      let reasons : decimal a ≡ decimal b = cc in
      let x : p ≡ q = same_number p q (omega (arith, he.0)) (omega (arith, hf.0)) peers in
      let y : a ≡ b = same_number a b (omega (arith, he.1)) (omega (arith, hf.1)) reasons in
      cc
  same_entry (Gone p a) y he hf w e = absurd (differ _ _ w refl)
  same_entry (Stray s) (Stray t) he hf w e = let numbers : decimal s ≡ decimal t = cc in ap Stray (same_number s t he hf numbers)
  same_entry (Stray s) y he hf w e = absurd (differ _ _ w refl)
  same_entry (Did p a m) (Did q b n) he hf w e = same_did p q a b m n he hf e
  same_entry (Did p a m) y he hf w e = absurd (differ _ _ w refl)
  same_entry (Fault a) (Fault b) he hf w e = let limits : decimal a ≡ decimal b = cc in ap Fault (same_number a b (omega arith) (omega arith) limits)
  same_entry (Fault a) y he hf w e = absurd (differ _ _ w refl)

-- ---- an entry's line begins with another byte than what follows a journal

-- neither the `j` of a journal, nor nothing
abbrev pub is_start : ℕ → Bool
is_start byte = not (eqb byte 106) && not (eqb byte 0)

ask_start : (command : Command) (verdict : Verdict) (behind : List ℕ) → is_start (get_or (ask_line command verdict ++ behind) 0 0) ≡ true
unfolding ask_line
ask_start command Accepted behind = refl
ask_start command (Refused state) behind = refl

pub entry_start : (entry : Entry) (behind : List ℕ) → is_start (get_or (entry_line entry ++ behind) 0 0) ≡ true
unfolding entry_line
entry_start (Got peer m) behind = refl
entry_start (Put peer m) behind = refl
entry_start (Hand peer place service) behind = refl
entry_start (Entered state) behind = refl
entry_start (System state) behind = refl
entry_start (Begin step at) behind = refl
entry_start (Done step) behind = refl
entry_start (End step) behind = refl
entry_start (Ask command verdict) behind = ask_start command verdict behind
entry_start (Gone peer reason) behind = refl
entry_start (Stray number) behind = refl
entry_start (Did service code sent) behind = refl
entry_start (Fault limit) behind = refl
