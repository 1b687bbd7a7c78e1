-- A connection along a talk.
use Rattle.std.proofs.Common.{◌≡◌, ◌≤◌, ◌<◌, ◌+◌, ◌-◌, ◌^◌, ℕ, Bool, true, false, ◌||◌, cond, Option, Some, None, List, [], ◌∷◌, ◌++◌, length, take, drop, refl, sym, ◌∙◌, ap, subst, arith, min, append_assoc, append-nil}
use Rattle.std.proofs.lemmas.List.{take-append-drop, drop-drop}
use Rattle.std.specs.List.{list_any}
use Rattle.sk_base.specs.Talk.{Said, Taken, Given, NoneTaken, NoneGiven, Ended, taken, given, bytes_taken, bytes_given, said_by_take, said_by_give, GivesWithin}
use Rattle.sk_base.specs.declared.link.Took.{Took}
use Rattle.sk_base.specs.declared.link.Took.TheVariants as took
use Rattle.sk_base.specs.declared.link.Gave.{Gave}
use Rattle.sk_base.specs.declared.link.Gave.TheVariants as gave
use Rattle.sk_msg.specs.declared.content.Content.{Content}
use Rattle.sk_wire.specs.declared.fault.WireFault.{WireFault}
use Rattle.sk_wire.specs.Parts.{messages, fault}
use Rattle.sk_wire.specs.Feeding.{Waiting, fed_with, GoesOn}
use Rattle.sk_connection.specs.Talks.{is_not_yet, is_end, is_take, waiting, IsHeldBack}
use Rattle.sk_connection.specs.Connection.{Connection, fresh, with_queued, one_wait_more, after_give, after_take, Follows, FollowsMore, FollowsGive, FollowsSaid, FollowsTake, left}
use Rattle.sk_connection.proofs.TalkLaws.{taken-more, given-more, waiting-more, is_end-more, held_now, held_still, not_refused, none_refused}

-- nothing was said
pub starts : (c : Connection) → c ≡ fresh → Follows [] [] c
starts c e = rw e (record {
  decoder_is = refl;
  given_is = refl;
  waits_is = refl;
  held_is = λ h. absurd cc;
  refused_is = λ front h. absurd (none_refused front h);
  ended_is = refl;
})

-- more bytes are queued
pub queues : (old new : Connection) (more : List ℕ) → new ≡ with_queued more old → FollowsMore more old new
queues old new more e all talk f = rw e (record {
  decoder_is = f.decoder_is;
  given_is = sym (append_assoc (given talk) old.queued more) ∙ ap (λ l. l ++ more) f.given_is;
  waits_is = f.waits_is;
  held_is = f.held_is;
  refused_is = f.refused_is;
  ended_is = f.ended_is;
})

module _ (all : List ℕ) (talk : List Said) (c : Connection) (f : Follows all talk c) where
  same_taken : (t : Said) → bytes_taken t ≡ [] → taken (talk ++ t ∷ []) ≡ taken talk
  same_taken t none = taken-more talk t ∙ ap (λ l. taken talk ++ l) none ∙ append-nil (taken talk)

  same_given : (t : Said) → bytes_given t ≡ [] → given (talk ++ t ∷ []) ≡ given talk
  same_given t none = given-more talk t ∙ ap (λ l. given talk ++ l) none ∙ append-nil (given talk)

  decoder_now : (t : Said) → bytes_taken t ≡ [] → c.decoder ≡ fed_with (taken (talk ++ t ∷ []))
  decoder_now t none = f.decoder_is ∙ ap fed_with (sym (same_taken t none))

  given_now : (t : Said) → bytes_given t ≡ [] → given (talk ++ t ∷ []) ++ c.queued ≡ all
  given_now t none = ap (λ l. l ++ c.queued) (same_given t none) ∙ f.given_is

  waits_now : (t : Said) → is_not_yet t ≡ true → one_wait_more c.waits ≡ min 1048576 (waiting (talk ++ t ∷ []))
  waits_now t waits = (let w = f.waits_is in let n = waiting-more talk t ∙ ap (λ b. cond b (1 + waiting talk) 0) waits in omega (arith, w, n))

  waits_over : (t : Said) → is_not_yet t ≡ false → 0 ≡ min 1048576 (waiting (talk ++ t ∷ []))
  waits_over t goes = (let n = waiting-more talk t ∙ ap (λ b. cond b (1 + waiting talk) 0) goes in omega (arith, n))

  no_end_now : (t : Said) → is_end t ≡ false → c.is_ended ≡ list_any is_end (talk ++ t ∷ [])
  no_end_now t goes = f.ended_is ∙ sym (is_end-more talk t ∙ ap (λ b. list_any is_end talk || (b || false)) goes ∙ or_false (list_any is_end talk))
    where
      or_false : (b : Bool) → (b || false) ≡ b
      or_false true = refl
      or_false false = refl

  pub gave_bytes : (n : ℕ) → Follows all (talk ++ Given (take n c.queued) ∷ []) (after_give (gave.Bytes n) c)
  gave_bytes n = let t = Given (take n c.queued) in record {
    decoder_is = decoder_now t refl;
    given_is = ap (λ l. l ++ drop n c.queued) (given-more talk t) ∙ append_assoc (given talk) (take n c.queued) (drop n c.queued)
        ∙ ap (λ l. given talk ++ l) (take-append-drop n c.queued) ∙ f.given_is;
    waits_is = waits_over t refl;
    held_is = λ held. held_still talk t refl (f.held_is held);
    refused_is = not_refused talk t c.is_held (λ e. cc);
    ended_is = no_end_now t refl;
  }

  pub gave_none : Follows all (talk ++ NoneGiven ∷ []) (after_give gave.NotYet c)
  gave_none = record {
    decoder_is = decoder_now NoneGiven refl;
    given_is = given_now NoneGiven refl;
    waits_is = waits_now NoneGiven refl;
    held_is = λ _. held_now talk;
    refused_is = λ _ _. refl;
    ended_is = no_end_now NoneGiven refl;
  }

  pub took_none : Follows all (talk ++ NoneTaken ∷ []) (after_take took.NotYet c.decoder c)
  took_none = record {
    decoder_is = decoder_now NoneTaken refl;
    given_is = given_now NoneTaken refl;
    waits_is = waits_now NoneTaken refl;
    held_is = λ e. absurd cc;
    refused_is = not_refused talk NoneTaken false (λ e. cc);
    ended_is = no_end_now NoneTaken refl;
  }

  pub took_end : Follows all (talk ++ Ended ∷ []) (after_take took.End c.decoder c)
  took_end = record {
    decoder_is = decoder_now Ended refl;
    given_is = given_now Ended refl;
    waits_is = waits_over Ended refl;
    held_is = λ e. absurd cc;
    refused_is = not_refused talk Ended false (λ e. cc);
    ended_is = sym (is_end-more talk Ended ∙ or_true (list_any is_end talk));
  }
    where
      or_true : (b : Bool) → (b || true) ≡ true
      or_true true = refl
      or_true false = refl

  -- a take without bytes
  pub took_nothing : (t : Said) (new : Connection) (found : List Content) (broken : Option WireFault) → bytes_taken t ≡ [] → Follows all (talk ++ t ∷ []) new
      → found ≡ [] → broken ≡ c.decoder.fault → FollowsSaid all talk t found broken new
  took_nothing t new found broken none follows no_messages same = record {
    follows = follows;
    messages_are = ap messages (same_taken t none) ∙ sym (append-nil (messages (taken talk))) ∙ ap (λ (l : List Content). messages (taken talk) ++ l) (sym no_messages);
    fault_is = same ∙ ap (λ (w : Waiting). w.fault) (decoder_now t none);
  }

  pub took_bytes : (piece : List ℕ) (n : ℕ) (decoder : Waiting) (found : List Content) (broken : Option WireFault) → GoesOn c.decoder piece found broken decoder
      → FollowsSaid all talk (Taken piece) found broken (after_take (took.Bytes n) decoder c)
  took_bytes piece n decoder found broken goes_on =
      let on = goes_on (taken talk) f.decoder_is in
      let t = Taken piece in
      let all_taken = taken-more talk t in record {
        follows = record {
          decoder_is = on.stands ∙ ap fed_with (sym all_taken);
          given_is = given_now t refl;
          waits_is = waits_over t refl;
          held_is = λ e. absurd cc;
          refused_is = not_refused talk t false (λ e. cc);
          ended_is = no_end_now t refl;
        };
        messages_are = ap messages all_taken ∙ on.all;
        fault_is = on.first ∙ ap fault (sym all_taken);
      }

-- ## Each answer, as the calls note it

-- a give of the bytes behind those given before
pub gave_bytes_is : (g : Gave) (n at : ℕ) (pending : List ℕ) (decoder : Waiting) (waits : ℕ) (is_held is_ended : Bool) (old : Connection)
    → g ≡ gave.Bytes n → old ≡ record { decoder = decoder; queued = drop at pending; waits = waits; is_held = is_held; is_ended = is_ended }
    → record { decoder = decoder; queued = drop (at + n) pending; waits = 0; is_held = is_held; is_ended = is_ended } ≡ after_give g old
gave_bytes_is g n at pending decoder waits is_held is_ended old bytes is =
    ap (λ (q : List ℕ). record { decoder = decoder; queued = q; waits = 0; is_held = is_held; is_ended = is_ended }) (sym (drop-drop n at pending))
    ∙ ap (after_give (gave.Bytes n)) (sym is) ∙ ap (λ (x : Gave). after_give x old) (sym bytes)

pub gives : (g : Gave) (old new : Connection) → new ≡ after_give g old → FollowsGive g old new
gives (gave.Bytes n) old new is all talk f = subst (λ (c : Connection). Follows all (talk ++ Given (take n old.queued) ∷ []) c) (sym is) (gave_bytes all talk old f n)
gives gave.NotYet old new is all talk f = subst (λ (c : Connection). Follows all (talk ++ NoneGiven ∷ []) c) (sym is) (gave_none all talk old f)

pub takes_bytes : (t : Took) (buffer piece : List ℕ) (n : ℕ) (old new : Connection) (found : List Content) (broken : Option WireFault)
    → t ≡ took.Bytes n → piece ≡ take n buffer → new ≡ record old { decoder = new.decoder; waits = 0; is_held = false }
    → GoesOn old.decoder piece found broken new.decoder → FollowsTake t buffer old found broken new
takes_bytes t buffer piece n old new found broken bytes is after goes_on all talk f =
    let said : said_by_take t buffer ≡ Taken piece = ap (λ (x : Took). said_by_take x buffer) bytes ∙ ap Taken (sym is) in
    subst (λ (x : Said). FollowsSaid all talk x found broken new) (sym said)
    (subst (λ (c : Connection). FollowsSaid all talk (Taken piece) found broken c) (sym after) (took_bytes all talk old f piece n new.decoder found broken goes_on))

pub takes_none : (t : Took) (buffer : List ℕ) (old new : Connection) (found : List Content) (broken : Option WireFault)
    → t ≡ took.NotYet → new ≡ after_take took.NotYet old.decoder old → found ≡ [] → broken ≡ old.decoder.fault → FollowsTake t buffer old found broken new
takes_none t buffer old new found broken none after no_messages same all talk f =
    subst (λ (x : Said). FollowsSaid all talk x found broken new) (sym (ap (λ (x : Took). said_by_take x buffer) none))
    (took_nothing all talk old f NoneTaken new found broken refl (subst (λ (c : Connection). Follows all (talk ++ NoneTaken ∷ []) c) (sym after) (took_none all talk old f)) no_messages same)

pub takes_end : (t : Took) (buffer : List ℕ) (old new : Connection) (found : List Content) (broken : Option WireFault)
    → t ≡ took.End → new ≡ after_take took.End old.decoder old → found ≡ [] → broken ≡ old.decoder.fault → FollowsTake t buffer old found broken new
takes_end t buffer old new found broken ends after no_messages same all talk f =
    subst (λ (x : Said). FollowsSaid all talk x found broken new) (sym (ap (λ (x : Took). said_by_take x buffer) ends))
    (took_nothing all talk old f Ended new found broken refl (subst (λ (c : Connection). Follows all (talk ++ Ended ∷ []) c) (sym after) (took_end all talk old f)) no_messages same)

pub ruleset taking = (takes_bytes, takes_none, takes_end)
