-- From how a check ended to what the call promises by its number, and from what was said piece by piece to lines.
use Rattle.std.proofs.Common.{◌≡◌, ◌≢◌, ℕ, ◌<◌, ◌≤◌, ◌^◌, List, [], ◌++◌, length, Bool, true, Option, Some, None, Result, refl, sym, ap, ◌∙◌, arith, append_assoc}
use Rattle.std.proofs.lemmas.List.{append-nil}
use Rattle.std.specs.Prelude.{IsSomeAnd}
use Rattle.std.proofs.lemmas.Bool.{le-ltb, lt-ltb}
use Rattle.sk_base.specs.Talk.{Rose}
use Rattle.sk_base.specs.Statuses.{status_number}
use Rattle.sk_config.specs.Reading.{reading}
use Rattle.sk_tools.specs.Outside.{HasNoFault, Says, Explains, IsContent}
use Rattle.sk_tools.specs.declared.outside.reading.ReadRefused.{ReadRefused}
use Rattle.sk_tools.specs.declared.outside.reading.ReadRefused.TheVariants as why
use Rattle.sk_tools.specs.Found.{Absent, TooLong, found_in, found_by, said_unread, IsJudged, IsOutput}
use Rattle.sk_tools.specs.Check.{FoundConfig, exit_of, IsCheckStatus, MayEnd, EndsUnread, Leaves, CountsReads, CountsWrites, said_of, said_by, checked_text}
use Rattle.sk_tools.specs.Seen.{FilesSeen, SinkSeen}
use Rattle.sk_tools.specs.OfflineCall.{IsCounted, IsCheckCall}
use Rattle.sk_tools.specs.declared.check.status.CheckStatus.{CheckStatus}
use Rattle.sk_tools.specs.declared.check.status.CheckStatus.TheVariants.{Done, BadFile, ReadFault, WriteFault, OutOfMemory}

-- the count between two counts that tell of no fault
pub no_fault_before : (a b c : ℕ) → a ≤ b → b ≤ c → HasNoFault a c → HasNoFault a b
no_fault_before a b c ab bc none = record { same = omega (arith, none.same); counts = none.counts }

pub no_fault_behind : (a b c : ℕ) → a ≤ b → b ≤ c → HasNoFault a c → HasNoFault b c
no_fault_behind a b c ab bc none = record { same = omega (arith, none.same); counts = omega (arith, none.same, none.counts) }

-- one text behind another
pub says_more : (told told_then : Bool) (a b c : ℕ) (before then now first second : List ℕ) → Says told a b before then first
    → told_then ≡ told → Says told_then b c then now second → Says told a c before now (first ++ second)
says_more told told_then a b c before then now first second one same other = record {
  grows = omega (arith, one.grows, other.grows);
  said = λ tells none.
      let early = one.said tells (no_fault_before a b c one.grows other.grows none) in
      let late = other.said (same ∙ tells) (no_fault_behind a b c one.grows other.grows none) in
      late ∙ ap (λ xs. xs ++ second) early ∙ append_assoc before first second;
}

-- nothing was said yet
pub says_nothing : (told : Bool) (a : ℕ) (before : List ℕ) → Says told a a before before []
says_nothing told a before = record { grows = omega arith; said = λ _ _. sym (append-nil before) }

-- a fault that rose is seen in the count, where that still counts
pub no_rise : (a b : ℕ) → HasNoFault a b → Rose a b → ⊥
no_rise a b none rose = omega (arith, none.same, none.counts, rose.0, rose.1)

-- ## By the number that is answered

pub by_counts : (ended : CheckStatus) (files : FilesSeen) (out : SinkSeen) → CountsReads ended files.faults files.faults_now → CountsWrites ended out.faults out.faults_now
    → IsCounted files out (status_number (exit_of ended))
by_counts Done files out reads writes = record { read_fault = λ e. absurd (omega arith); reads_steady = λ _. reads; write_fault = λ e. absurd (omega arith); writes_steady = λ _. writes }
by_counts BadFile files out reads writes = record { read_fault = λ e. absurd (omega arith); reads_steady = λ _. reads; write_fault = λ e. absurd (omega arith); writes_steady = λ _. writes }
by_counts ReadFault files out reads writes = record { read_fault = λ _. reads; reads_steady = λ n. absurd (n refl); write_fault = λ e. absurd (omega arith); writes_steady = λ _. writes }
by_counts WriteFault files out reads writes = record { read_fault = λ e. absurd (omega arith); reads_steady = λ _. reads; write_fault = λ _. writes; writes_steady = λ n. absurd (n refl) }
by_counts OutOfMemory files out reads writes = record { read_fault = λ e. absurd (omega arith); reads_steady = λ _. reads; write_fault = λ e. absurd (omega arith); writes_steady = λ _. writes }

by_found : (ended : CheckStatus) (found : FoundConfig) → MayEnd found ended → IsJudged found (status_number (exit_of ended))
by_found Done found may = record { done = λ _. may; refused = λ e. absurd (omega arith); written = λ e. absurd (omega arith) }
by_found BadFile found may = record { done = λ e. absurd (omega arith); refused = λ _. may; written = λ e. absurd (omega arith) }
by_found ReadFault found may = record { done = λ e. absurd (omega arith); refused = λ e. absurd (omega arith); written = λ e. absurd (omega arith) }
by_found WriteFault found may = record { done = λ e. absurd (omega arith); refused = λ e. absurd (omega arith); written = λ _. may }
by_found OutOfMemory found may = record { done = λ e. absurd (omega arith); refused = λ e. absurd (omega arith); written = λ e. absurd (omega arith) }

pub by_text : (ended : CheckStatus) (text before now : List ℕ) → Leaves ended text before now → IsOutput text (status_number (exit_of ended)) before now
by_text Done text before now leaves = record { whole = λ _. leaves; part = λ e. absurd (omega arith); nothing = λ n _. absurd (n refl) }
by_text BadFile text before now leaves = record { whole = λ e. absurd (omega arith); part = λ e. absurd (omega arith); nothing = λ _ _. leaves }
by_text ReadFault text before now leaves = record { whole = λ e. absurd (omega arith); part = λ e. absurd (omega arith); nothing = λ _ _. leaves }
by_text WriteFault text before now leaves = record { whole = λ e. absurd (omega arith); part = λ _. leaves; nothing = λ _ n. absurd (n refl) }
by_text OutOfMemory text before now leaves = record { whole = λ e. absurd (omega arith); part = λ e. absurd (omega arith); nothing = λ _ _. leaves }

known : (ended : CheckStatus) → IsCheckStatus (status_number (exit_of ended))
known Done = refl
known BadFile = refl
known ReadFault = refl
known WriteFault = refl
known OutOfMemory = refl

-- memory didn't run out, where another number is answered
pub ran : (ended : CheckStatus) → status_number (exit_of ended) ≢ 5 → ended ≢ OutOfMemory
ran ended n e = n (ap (λ x. status_number (exit_of x)) e)

-- what is said by the number is what is said by the end
said_same : (ended : CheckStatus) (file : List ℕ) (found : FoundConfig) → status_number (exit_of ended) ≢ 5
    → said_of file found ended ≡ said_by file found (status_number (exit_of ended))
said_same Done file found n = refl
said_same BadFile file found n = refl
said_same ReadFault file found n = refl
said_same WriteFault file found n = refl
said_same OutOfMemory file found n = absurd (n refl)

-- what `check` leaves is what its call promises
pub check_ran : (file : List ℕ) (files : FilesSeen) (out err : SinkSeen) (ended : CheckStatus)
    → CountsReads ended files.faults files.faults_now → CountsWrites ended out.faults out.faults_now
    → (files.tells ≡ true → MayEnd (found_in reading (files.content file)) ended)
    → (out.tells ≡ true → files.tells ≡ true → Leaves ended (checked_text (found_in reading (files.content file))) out.written out.written_now)
    → (files.tells ≡ true → ended ≢ OutOfMemory
    → Says err.tells err.faults err.faults_now err.written err.written_now (said_of file (found_in reading (files.content file)) ended))
    → IsCheckCall file files out err (status_number (exit_of ended))
check_ran file files out err ended reads writes ends leaves says = record {
  known = known ended;
  counted = by_counts ended files out reads writes;
  judged = λ told. by_found ended _ (ends told);
  output = λ told out_told. by_text ended _ out.written out.written_now (leaves out_told told);
  said = λ told err_told none n.
      (says told (ran ended n)).said err_told none ∙ ap (λ text. err.written ++ text) (said_same ended file (found_in reading (files.content file)) n);
}

-- memory ran out before anything was done
pub check_unrun : (file : List ℕ) (files : FilesSeen) (out err : SinkSeen) (answer : ℕ) → answer ≡ 5 → files.faults_now ≡ files.faults
    → out.faults_now ≡ out.faults → out.written_now ≡ out.written → IsCheckCall file files out err answer
check_unrun file files out err answer is reads writes same = record {
  known = rw is refl;
  counted = record { read_fault = λ e. absurd (omega (arith, is)); reads_steady = λ _. reads; write_fault = λ e. absurd (omega (arith, is)); writes_steady = λ _. writes };
  judged = λ told. record { done = λ e. absurd (omega (arith, is)); refused = λ e. absurd (omega (arith, is)); written = λ e. absurd (omega (arith, is)) };
  output = λ told out_told. record { whole = λ e. absurd (omega (arith, is)); part = λ e. absurd (omega (arith, is)); nothing = λ _ _. same };
  said = λ told err_told none n. absurd (n is);
}

-- ## What a file holds, from what reading it answered

module _ {F A : Type 0} (reads : List ℕ → Result A F) where
  pub found_content : (content : Option (List ℕ)) (bytes : List ℕ) → IsContent content bytes → found_in reads content ≡ found_by (reads bytes)
  unfolding found_in
  found_content content bytes holds = rw (holds.0, le-ltb (2 ^ 24) (length bytes) holds.1) refl

  pub found_none : (content : Option (List ℕ)) → content ≡ None → found_in reads content ≡ Absent
  unfolding found_in
  found_none content none = rw none refl

  pub found_long : (content : Option (List ℕ)) → IsSomeAnd content (λ bytes. 2 ^ 24 < length bytes) → found_in reads content ≡ TooLong
  unfolding found_in
  found_long None long = absurd long
  found_long (Some bytes) long = rw (lt-ltb (2 ^ 24) (length bytes) long) refl

pub ends_unread : (content : Option (List ℕ)) (refused : ReadRefused) (ended : CheckStatus) → Explains content refused → EndsUnread refused ended
    → MayEnd (found_in reading content) ended
ends_unread content why.Absent ended explains ends = rw (ends, found_none reading content explains) refl
ends_unread content why.TooLong ended explains ends = rw (ends, found_long reading content explains) refl
ends_unread content why.Fault ended explains ends = rw ends tt
ends_unread content why.WantOfMemory ended explains ends = rw ends tt

pub said_unread_same : (file : List ℕ) (content : Option (List ℕ)) (refused : ReadRefused) (ended : CheckStatus) → Explains content refused
    → EndsUnread refused ended → ended ≢ OutOfMemory → said_unread file refused ≡ said_of file (found_in reading content) ended
said_unread_same file content why.Absent ended explains ends n = rw (ends, found_none reading content explains) refl
said_unread_same file content why.TooLong ended explains ends n = rw (ends, found_long reading content explains) refl
said_unread_same file content why.Fault ended explains ends n = rw ends refl
said_unread_same file content why.WantOfMemory ended explains ends n = absurd (n ends)
