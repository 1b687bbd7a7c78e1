-- One more message, and one more piece.
use Rattle.std.proofs.Common.{◌≡◌, ◌≤◌, ◌<◌, ◌+◌, ◌/◌, ℕ, Bool, true, false, ◌||◌, cond, Option, Some, None, List, [], ◌∷◌, ◌++◌, refl, sym, ◌∙◌, ap, subst, arith, min, leb}
use Rattle.std.specs.Prelude.{not}
use Rattle.std.proofs.lemmas.Bool.Decides.{nat_tests}
use Rattle.std.proofs.lemmas.List.Folds.{list_any-append}
use Rattle.std.specs.List.{list_any}
use Rattle.std.specs.Option.{is_some}
use Rattle.sk_msg.specs.declared.role.Role.{Role}
use Rattle.sk_msg.specs.declared.content.Content.{Content}
use Rattle.sk_msg.specs.declared.content.Content.TheVariants.{Hello, Leave, NextStep}
use Rattle.sk_wire.specs.declared.fault.WireFault.{WireFault}
use Rattle.sk_wire.specs.Parts.{parts, messages, fault}
use Rattle.sk_msg.specs.Roles.{is_synchronised_role}
use Rattle.sk_pipe.specs.Frames.{all_steps}
use Rattle.sk_pipe.specs.Pipe.{is_passed_over, is_hello, is_unsynchronised_hello, is_leave, announces, is_out_of_order, orderly, end_among, or_fault, heard, end_of, steps_begun}
use Rattle.sk_pipe.specs.Hearing.{IsPresent, Announced, IsSyncAfter, Hears, IsHeardAs, HearsPiece, KeepsPlan}
use Rattle.sk_pipe.specs.declared.peer.PeerEnding.{PeerEnding}
use Rattle.sk_pipe.specs.declared.peer.PeerEnding.TheVariants.{Left, Broken}
use Rattle.sk_pipe.specs.declared.peer.PeerSync.TheVariants.{Synchronised}
use Rattle.sk_pipe.specs.declared.peer.Peer.{Peer}
use Rattle.sk_pipe.proofs.CountLaws.{steps_begun-none, steps_begun-all, steps_begun-upto}

-- ## One message, in order or not

-- one that is passed over
pub heard_other : (before : List Content) (m : Content) (peer : Peer) → is_passed_over m ≡ true → Hears before None peer → IsHeardAs before (m ∷ []) peer
heard_other before m peer other h = rw other h

module _ (before : List Content) (m : Content) (counts : is_passed_over m ≡ false) where
  orderly-bad : is_out_of_order before m ≡ true → orderly before (m ∷ []) ≡ before
  orderly-bad bad = rw (counts, bad)

  end-bad : is_out_of_order before m ≡ true → end_among before (m ∷ []) ≡ Some Broken
  end-bad bad = rw (counts, bad)

  orderly-good : is_out_of_order before m ≡ false → orderly before (m ∷ []) ≡ before ++ m ∷ []
  orderly-good good = rw (counts, good) (either (is_leave m))
    where
      either : (b : Bool) → cond b (before ++ m ∷ []) (before ++ m ∷ []) ≡ before ++ m ∷ []
      either true = refl
      either false = refl

  end-good : is_out_of_order before m ≡ false → is_leave m ≡ false → end_among before (m ∷ []) ≡ None
  end-good good stays = rw (counts, good, stays)

  end-leave : is_out_of_order before m ≡ false → is_leave m ≡ true → end_among before (m ∷ []) ≡ Some Left
  end-leave good leaves = rw (counts, good, leaves)

  pub heard_bad : (peer : Peer) → is_out_of_order before m ≡ true → peer.ending ≡ Some Broken → peer.begun ≡ steps_begun peer.step peer.duration before
      → IsHeardAs before (m ∷ []) peer
  heard_bad peer bad ending begun = record {
    ending_is = ending ∙ sym (end-bad bad);
    begun_is = begun ∙ ap (steps_begun peer.step peer.duration) (sym (orderly-bad bad));
    sync_is = λ none. absurd (let both : Some Broken ≡ None = sym (end-bad bad) ∙ none in cc);
  }

  -- one in order that isn't Leave
  pub heard_good : (peer : Peer) → is_out_of_order before m ≡ false → is_leave m ≡ false → peer.ending ≡ None
      → peer.begun ≡ steps_begun peer.step peer.duration (before ++ m ∷ []) → IsSyncAfter (before ++ m ∷ []) peer.sync → IsHeardAs before (m ∷ []) peer
  heard_good peer good stays ending begun sync_is = record {
    ending_is = ending ∙ sym (end-good good stays);
    begun_is = begun ∙ ap (steps_begun peer.step peer.duration) (sym (orderly-good good));
    sync_is = λ _. subst (λ (l : List Content). IsSyncAfter l peer.sync) (sym (orderly-good good)) sync_is;
  }

  pub heard_leave : (peer : Peer) → is_out_of_order before m ≡ false → is_leave m ≡ true → peer.ending ≡ Some Left
      → peer.begun ≡ steps_begun peer.step peer.duration (before ++ m ∷ []) → IsHeardAs before (m ∷ []) peer
  heard_leave peer good leaves ending begun = record {
    ending_is = ending ∙ sym (end-leave good leaves);
    begun_is = begun ∙ ap (steps_begun peer.step peer.duration) (sym (orderly-good good));
    sync_is = λ none. absurd (let both : Some Left ≡ None = sym (end-leave good leaves) ∙ none in cc);
  }

-- ## How many steps may begin

module _ (step duration : ℕ) (positive : 1 ≤ step) where
  pub begun-nothing : steps_begun step duration [] ≡ 0
  begun-nothing = steps_begun-none step duration [] positive (λ _. refl)

  -- an unsynchronised peer lets all begin
  pub begun-unsynchronised : (ms : List Content) → IsPresent ms true → steps_begun step duration ms ≡ all_steps step duration
  begun-unsynchronised ms p = steps_begun-all step duration ms positive (λ t. rw (p.hello, p.unsynchronised_is) refl)

  -- a synchronised peer lets those begin that it announced
  pub begun-unannounced : (ms : List Content) → IsPresent ms false → Announced ms None → steps_begun step duration ms ≡ 0
  begun-unannounced ms p none = steps_begun-none step duration ms positive (λ t. rw (p.hello, p.unsynchronised_is, p.stays) (none t))

  pub begun-by : (ms : List Content) (last : ℕ) → IsPresent ms false → Announced ms (Some last) → steps_begun step duration ms ≡ min (all_steps step duration) (last / step + 1)
  begun-by ms last p by = steps_begun-upto step duration ms positive last (λ t. rw (p.hello, p.unsynchronised_is, p.stays) (by t))

  pub begun-left : (before : List Content) → list_any is_hello before ≡ true → steps_begun step duration (before ++ Leave ∷ []) ≡ all_steps step duration
  begun-left before hello = steps_begun-all step duration (before ++ Leave ∷ []) positive
      (λ t. rw (list_any-append, list_any-append, list_any-append, list_any-append, hello) (at_leave (list_any is_unsynchronised_hello before) (list_any is_leave before) (list_any (announces t) before)))
    where
      at_leave : (x y z : Bool) → ((x || false) || (y || true) || (z || false)) ≡ true
      at_leave x y z = grind arith

-- ## After each kind of message

or_false : (b : Bool) → (b || false) ≡ b
or_false true = refl
or_false false = refl

pub present-hello : (name : List ℕ) (role : Role) (address : List ℕ) → IsPresent (Hello name role address ∷ []) (not (is_synchronised_role role))
present-hello name role address = record { hello = refl; unsynchronised_is = or_false (not (is_synchronised_role role)); stays = refl }

present-next : (before : List Content) (at duration : ℕ) (unsynchronised : Bool) → IsPresent before unsynchronised → IsPresent (before ++ NextStep at duration ∷ []) unsynchronised
present-next before at duration unsynchronised p = record {
  hello = list_any-append is_hello before (NextStep at duration ∷ []) ∙ ap (λ b. b || false) p.hello;
  unsynchronised_is = list_any-append is_unsynchronised_hello before (NextStep at duration ∷ []) ∙ ap (λ b. b || false) p.unsynchronised_is ∙ or_false unsynchronised;
  stays = list_any-append is_leave before (NextStep at duration ∷ []) ∙ ap (λ b. b || false) p.stays;
}

announced-first : (before : List Content) (at duration : ℕ) → Announced before None → Announced (before ++ NextStep at duration ∷ []) (Some at)
announced-first before at duration none t =
    list_any-append (announces t) before (NextStep at duration ∷ []) ∙ ap (λ b. b || (leb t at || false)) (none t) ∙ or_false (leb t at)

announced-next : (before : List Content) (last at duration : ℕ) → last < at → Announced before (Some last) → Announced (before ++ NextStep at duration ∷ []) (Some at)
announced-next before last at duration rises by t =
    list_any-append (announces t) before (NextStep at duration ∷ []) ∙ ap (λ b. b || (leb t at || false)) (by t) ∙ later
  where
    later : (leb t last || (leb t at || false)) ≡ leb t at
    later = grind (arith, nat_tests, rises)

-- which announcements of a synchronised peer are out of order
first-good : (before : List Content) (at duration : ℕ) → IsPresent before false → Announced before None → is_out_of_order before (NextStep at duration) ≡ false
first-good before at duration p none = rw (p.hello, p.unsynchronised_is, none at) refl

next-good : (before : List Content) (last at duration : ℕ) → last < at → IsPresent before false → Announced before (Some last) → is_out_of_order before (NextStep at duration) ≡ false
next-good before last at duration rises p by = rw (p.hello, p.unsynchronised_is, by at) (grind (arith, nat_tests))

pub next-bad : (before : List Content) (last at duration : ℕ) → at ≤ last → IsPresent before false → Announced before (Some last) → is_out_of_order before (NextStep at duration) ≡ true
next-bad before last at duration falls p by = rw (p.hello, p.unsynchronised_is, by at) (grind (arith, nat_tests))

pub unsynchronised-bad : (before : List Content) (at duration : ℕ) → IsPresent before true → is_out_of_order before (NextStep at duration) ≡ true
unsynchronised-bad before at duration p = rw (p.hello, p.unsynchronised_is) refl

pub hello-bad : (before : List Content) (name : List ℕ) (role : Role) (address : List ℕ) (unsynchronised : Bool) → IsPresent before unsynchronised → is_out_of_order before (Hello name role address) ≡ true
hello-bad before name role address unsynchronised p = p.hello

pub leave-good : (before : List Content) (unsynchronised : Bool) → IsPresent before unsynchronised → is_out_of_order before Leave ≡ false
leave-good before unsynchronised p = rw p.hello refl

-- an announcement in order
hears_announced : (old new : Peer) (before : List Content) (at duration : ℕ) → 1 ≤ old.step → is_out_of_order before (NextStep at duration) ≡ false
    → IsPresent before false → Announced (before ++ NextStep at duration ∷ []) (Some at) → old.ending ≡ None
    → KeepsPlan old new → new.sync ≡ Synchronised (Some at) → new.ending ≡ old.ending → new.begun ≡ min old.total (at / old.step + 1) → IsHeardAs before (NextStep at duration ∷ []) new
hears_announced old new before at duration positive good p by open_still plan sync ending begun =
    let now = before ++ NextStep at duration ∷ [] in
    let present = present-next before at duration false p in
    let counted : new.begun ≡ steps_begun new.step new.duration now =
    rw (plan.step, plan.duration) (begun ∙ ap (λ n. min n (at / old.step + 1)) old.counted ∙ sym (begun-by old.step old.duration positive now at present by)) in
    heard_good before (NextStep at duration) refl new good refl (ending ∙ open_still) counted (subst (IsSyncAfter now) (sym sync) (present, by))

pub hears_first : (old new : Peer) (before : List Content) (at duration : ℕ) → 1 ≤ old.step → IsSyncAfter before (Synchronised None) → old.ending ≡ None
    → KeepsPlan old new → new.sync ≡ Synchronised (Some at) → new.ending ≡ old.ending → new.begun ≡ min old.total (at / old.step + 1) → IsHeardAs before (NextStep at duration ∷ []) new
hears_first old new before at duration positive s =
    hears_announced old new before at duration positive (first-good before at duration s.0 s.1) s.0 (announced-first before at duration s.1)

pub hears_next : (old new : Peer) (before : List Content) (last at duration : ℕ) → 1 ≤ old.step → last < at → IsSyncAfter before (Synchronised (Some last)) → old.ending ≡ None
    → KeepsPlan old new → new.sync ≡ Synchronised (Some at) → new.ending ≡ old.ending → new.begun ≡ min old.total (at / old.step + 1) → IsHeardAs before (NextStep at duration ∷ []) new
hears_next old new before last at duration positive rises s =
    hears_announced old new before at duration positive (next-good before last at duration rises s.0 s.1) s.0 (announced-next before last at duration rises s.1)

-- ## More messages behind those before

abbrev pub goes_on : Option PeerEnding → List Content → List Content → List Content
goes_on None before ms = orderly before ms
goes_on (Some ending) before ms = before

abbrev pub ends_on : Option PeerEnding → List Content → List Content → Option PeerEnding
ends_on None before ms = end_among before ms
ends_on (Some ending) before ms = Some ending

pub orderly-append : (before xs ys : List Content) → orderly before (xs ++ ys) ≡ goes_on (end_among before xs) (orderly before xs) ys
orderly-append before [] ys = refl
orderly-append before (m ∷ xs) ys = by_case (is_passed_over m) (is_out_of_order before m) (is_leave m) (orderly-append before xs ys) (orderly-append (before ++ m ∷ []) xs ys)
  where
    by_case : (o b l : Bool) → orderly before (xs ++ ys) ≡ goes_on (end_among before xs) (orderly before xs) ys
        → orderly (before ++ m ∷ []) (xs ++ ys) ≡ goes_on (end_among (before ++ m ∷ []) xs) (orderly (before ++ m ∷ []) xs) ys
        → cond o (orderly before (xs ++ ys)) (cond b before (cond l (before ++ m ∷ []) (orderly (before ++ m ∷ []) (xs ++ ys))))
        ≡ goes_on (cond o (end_among before xs) (cond b (Some Broken) (cond l (Some Left) (end_among (before ++ m ∷ []) xs))))
        (cond o (orderly before xs) (cond b before (cond l (before ++ m ∷ []) (orderly (before ++ m ∷ []) xs)))) ys
    by_case true b l p q = p
    by_case false true l p q = refl
    by_case false false true p q = refl
    by_case false false false p q = q

pub end_among-append : (before xs ys : List Content) → end_among before (xs ++ ys) ≡ ends_on (end_among before xs) (orderly before xs) ys
end_among-append before [] ys = refl
end_among-append before (m ∷ xs) ys = by_case (is_passed_over m) (is_out_of_order before m) (is_leave m) (end_among-append before xs ys) (end_among-append (before ++ m ∷ []) xs ys)
  where
    by_case : (o b l : Bool) → end_among before (xs ++ ys) ≡ ends_on (end_among before xs) (orderly before xs) ys
        → end_among (before ++ m ∷ []) (xs ++ ys) ≡ ends_on (end_among (before ++ m ∷ []) xs) (orderly (before ++ m ∷ []) xs) ys
        → cond o (end_among before (xs ++ ys)) (cond b (Some Broken) (cond l (Some Left) (end_among (before ++ m ∷ []) (xs ++ ys))))
        ≡ ends_on (cond o (end_among before xs) (cond b (Some Broken) (cond l (Some Left) (end_among (before ++ m ∷ []) xs))))
        (cond o (orderly before xs) (cond b before (cond l (before ++ m ∷ []) (orderly (before ++ m ∷ []) xs)))) ys
    by_case true b l p q = p
    by_case false true l p q = refl
    by_case false false true p q = refl
    by_case false false false p q = q

-- the Peer heard xs, and then ys
heard_more : (before xs ys : List Content) (peer : Peer) → end_among before xs ≡ None → IsHeardAs (orderly before xs) ys peer → IsHeardAs before (xs ++ ys) peer
heard_more before xs ys peer none h =
    let front : orderly before (xs ++ ys) ≡ orderly (orderly before xs) ys = orderly-append before xs ys ∙ ap (λ o. goes_on o (orderly before xs) ys) none in
    let ending : end_among before (xs ++ ys) ≡ end_among (orderly before xs) ys = end_among-append before xs ys ∙ ap (λ o. ends_on o (orderly before xs) ys) none in
    rw (front, ending) h

-- the Peer heard xs, which ended it
heard_all : (before xs ys : List Content) (peer : Peer) (end : PeerEnding) → end_among before xs ≡ Some end → IsHeardAs before xs peer → IsHeardAs before (xs ++ ys) peer
heard_all before xs ys peer end some h =
    let front : orderly before (xs ++ ys) ≡ orderly before xs = orderly-append before xs ys ∙ ap (λ o. goes_on o (orderly before xs) ys) some in
    let ending : end_among before (xs ++ ys) ≡ end_among before xs = end_among-append before xs ys ∙ ap (λ o. ends_on o (orderly before xs) ys) some ∙ sym some in
    rw (front, ending) h

-- what a call of `note` says
abbrev pub NotesTo : Peer → Content → Peer → Type 0
NotesTo old m new = (before : List Content) → Hears before None old → IsHeardAs before (m ∷ []) new

-- one more message in a loop
pub heard_step : (before xs : List Content) (m : Content) (old new : Peer) → old.ending ≡ None → IsHeardAs before xs old → NotesTo old m new → IsHeardAs before (xs ++ m ∷ []) new
heard_step before xs m old new open_still h notes =
    let none : end_among before xs ≡ None = sym h.ending_is ∙ open_still in
    heard_more before xs (m ∷ []) new none (notes (orderly before xs) (subst (λ (o : Option PeerEnding). Hears (orderly before xs) o old) none h))

-- the message that ended it is the last that counts
pub heard_last : (before xs ys : List Content) (peer : Peer) (end : PeerEnding) → peer.ending ≡ Some end → IsHeardAs before xs peer → IsHeardAs before (xs ++ ys) peer
heard_last before xs ys peer end some h = heard_all before xs ys peer end (sym h.ending_is ∙ some) h

pub not_some : (o : Option PeerEnding) → false ≡ is_some o → o ≡ None
not_some None h = refl
not_some (Some x) h = cc

pub some_of : (o : Option PeerEnding) → true ≡ is_some o → (x : PeerEnding) × (o ≡ Some x)
some_of None h = cc
some_of (Some x) h = (x, refl)

-- ## One more piece

-- nothing was taken
pub heard-nothing : heard [] ≡ []
unfolding parts
heard-nothing = refl

pub end_of-nothing : end_of [] ≡ None
unfolding parts
end_of-nothing = refl

or_fault-none : (o : Option PeerEnding) (bad : Bool) → or_fault o bad ≡ None → (o ≡ None) × (bad ≡ false)
or_fault-none None true h = cc
or_fault-none None false h = (refl, refl)
or_fault-none (Some ending) bad h = cc

pub or_fault-false : (o : Option PeerEnding) → or_fault o false ≡ o
or_fault-false None = refl
or_fault-false (Some ending) = refl

no_fault : (f : Option WireFault) → is_some f ≡ false → f ≡ None
no_fault None h = refl
no_fault (Some f) h = cc

-- with nothing over, the stream had no fault and its messages no end
pub open_stream : (b : List ℕ) → end_of b ≡ None → (end_among [] (messages b) ≡ None) × (fault b ≡ None)
open_stream b h = let both = or_fault-none (end_among [] (messages b)) (is_some (fault b)) h in (both.0, no_fault (fault b) both.1)

-- more bytes were taken, with these messages and this fault
pub hears_piece : (b c : List ℕ) (found : List Content) (broken : Option WireFault) (old new : Peer) → Hears (heard b) (end_of b) old → old.ending ≡ None
    → messages c ≡ messages b ++ found → broken ≡ fault c → ((before : List Content) → Hears before None old → HearsPiece before found (is_some broken) new)
    → Hears (heard c) (end_of c) new
hears_piece b c found broken old new h open_still all bad says =
    let none : end_of b ≡ None = sym h.ending_is ∙ open_still in
    let stream = open_stream b none in
    let front : heard c ≡ orderly (heard b) found
    = ap (orderly []) all ∙ orderly-append [] (messages b) found ∙ ap (λ o. goes_on o (heard b) found) stream.0 in
    let ended : end_of c ≡ or_fault (end_among (heard b) found) (is_some broken)
    = ap (λ ms. or_fault (end_among [] ms) (is_some (fault c))) all
    ∙ ap (λ o. or_fault o (is_some (fault c))) (end_among-append [] (messages b) found ∙ ap (λ o. ends_on o (heard b) found) stream.0)
    ∙ ap (λ f. or_fault (end_among (heard b) found) (is_some f)) (sym bad) in
    rw (front, ended) (says (heard b) (subst (λ (o : Option PeerEnding). Hears (heard b) o old) none h))
