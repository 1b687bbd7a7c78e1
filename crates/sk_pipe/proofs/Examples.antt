-- The definitions, computed on the worked examples and on small talks.
use Rattle.std.proofs.Common.{◌≡◌, ◌≤◌, ◌<◌, ◌+◌, ◌*◌, ℕ, zero, suc, Bool, true, false, ◌&&◌, cond, Option, Some, None, List, [], ◌∷◌, ◌++◌, length, refl, sym, ◌∙◌, ap, append-nil, get_or, arith, ltb, eq-or-lt_of_le, inl, inr}
use Rattle.std.specs.Prelude.{IsTrue, is_some}
use Rattle.std.specs.List.{flat_map, AllByRecursion}
use Rattle.std.proofs.lemmas.Bool.Decides.{nat_tests}
use Rattle.std.proofs.lemmas.Str.{is_utf8-from_IsUtf8, IsUtf8-from_ascii, IsUtf8-nil}
use Rattle.sk_base.specs.Ranges.{is_time, is_text, is_name}
use Rattle.sk_base.specs.Talk.{Said, NoneTaken}
use Rattle.sk_msg.specs.Rules.{is_step_size, is_message}
use Rattle.sk_msg.specs.declared.role.Role.TheVariants.{Participant}
use Rattle.sk_msg.specs.declared.content.Content.{Content}
use Rattle.sk_msg.specs.declared.content.Content.TheVariants.{Hello, Leave, NextStep}
use Rattle.sk_wire.specs.Kinds.{name, text, time, step_size, role}
use Rattle.sk_wire.specs.Grammar.{kind_of, fields, spelling}
use Rattle.sk_wire.specs.Stream.{is_open, Parts, HasParts}
use Rattle.sk_wire.specs.Parts.{parts}
use Rattle.sk_pipe.specs.Pipe.{hello, next_step, leave, orderly, end_among, or_fault, heard, end_of, steps_begun, count_below, may_begin, output, pipe_out}
use Rattle.sk_pipe.specs.Run.{IsInStep}
use Rattle.sk_pipe.specs.Frames.{all_steps}
use Rattle.sk_pipe.specs.Examples.{taken_ahead, given_ahead, taken_ended, given_ended, taken_below, given_below, given_at_once}
use Rattle.sk_pipe.specs.Laws.{early_talk, late_talk, one_earlier_talk, longer_talk}
use Rattle.sk_pipe.specs.declared.peer.PeerEnding.{PeerEnding}
use Rattle.sk_pipe.specs.declared.peer.PeerEnding.TheVariants.{Left}
use Rattle.sk_pipe.proofs.CountLaws.{times_below, all_steps-le}
use Rattle.sk_pipe.proofs.TalkLaws.{not_held_at_start}

-- ## Streams, read by the grammar

name_b : is_name (66 ∷ []) ≡ true
unfolding is_name is_text
name_b = rw (is_utf8-from_IsUtf8 (66 ∷ []) (IsUtf8-from_ascii (66 ∷ []) ascii)) refl
  where
    ascii : (i : ℕ) → get_or (66 ∷ []) i 0 < 128
    ascii zero = omega arith
    ascii (suc i) = omega arith

no_address : is_text [] ≡ true
unfolding is_text
no_address = rw (is_utf8-from_IsUtf8 [] IsUtf8-nil) refl

abbrev hello_of_b : Bool → Content
hello_of_b synchronised = Hello (66 ∷ []) (Participant false synchronised) []

hello_fits : (synchronised : Bool) → is_message (hello_of_b synchronised) ≡ true
unfolding is_message
hello_fits synchronised = rw (name_b, no_address) refl

nothing_open : is_open [] ≡ true
unfolding is_open
nothing_open = refl

module _ (reading_is : (from : ℕ) (bytes : List ℕ) (p : Parts) → HasParts from bytes p → p ≡ parts from bytes) where
  -- these messages, and nothing behind them
  read_whole : (b : List ℕ) (ms : List Content) → b ≡ flat_map spelling ms ++ [] → AllByRecursion (λ m. IsTrue (is_message m)) ms
      → parts 0 b ≡ record { messages = ms; rest = []; fault = None }
  read_whole b ms whole each =
      let r : HasParts 0 b (record { messages = ms; rest = []; fault = None }) = record { tail = []; whole = whole; each = each; end = (nothing_open, refl) } in
      sym (reading_is 0 b (record { messages = ms; rest = []; fault = None }) r)

  heard_of : (b : List ℕ) (ms : List Content) → parts 0 b ≡ record { messages = ms; rest = []; fault = None } → heard b ≡ orderly [] ms
  heard_of b ms e = ap (λ (p : Parts). orderly [] p.messages) e

  end_of_read : (b : List ℕ) (ms : List Content) → parts 0 b ≡ record { messages = ms; rest = []; fault = None } → end_of b ≡ or_fault (end_among [] ms) false
  end_of_read b ms e = ap (λ (p : Parts). or_fault (end_among [] p.messages) (is_some p.fault)) e

  -- ## The steps are counted among those of the run

  count_below-more : (test : ℕ → Bool) (n k : ℕ) → n ≤ k → ((i : ℕ) → n ≤ i → test i ≡ false) → count_below test k ≡ count_below test n
  count_below-more test n zero le none = ap (count_below test) (let e : 0 ≡ n = omega arith in e)
  count_below-more test n (suc k) le none =
      elim (eq-or-lt_of_le le) [
        | inl e ↦ ap (count_below test) (sym e)
        | inr below ↦
            let within : n ≤ k = omega (arith, below) in
            let before = count_below-more test n k within none in
            let here = none k within in
            ap (λ b. count_below test k + cond b 1 0) here ∙ (let z : count_below test k + 0 ≡ count_below test k = omega arith in z) ∙ before
      ]

  steps_begun-count : (step duration : ℕ) (ms : List Content) (n : ℕ) → 1 ≤ step
      → count_below (λ i. ltb (i * step) duration && may_begin ms (i * step)) (all_steps step duration) ≡ n → steps_begun step duration ms ≡ n
  steps_begun-count step duration ms n positive counted =
      let outside : (i : ℕ) → all_steps step duration ≤ i → (ltb (i * step) duration && may_begin ms (i * step)) ≡ false
      = λ i past. ap (λ b. b && may_begin ms (i * step)) (times_below step duration i positive ∙ (let no : ltb i (all_steps step duration) ≡ false = grind (arith, nat_tests, past) in no)) in
      count_below-more (λ i. ltb (i * step) duration && may_begin ms (i * step)) (all_steps step duration) duration (all_steps-le step duration positive) outside ∙ counted

  pipe_out-by : (name : List ℕ) (step duration : ℕ) (b : List ℕ) (n : ℕ) → steps_begun step duration (heard b) ≡ n → pipe_out name step duration b ≡ output name step duration n
  pipe_out-by name step duration b n e = ap (output name step duration) e

  -- ## The worked examples

  abbrev messages_ahead : List Content
  messages_ahead = hello_of_b true ∷ NextStep 0 1000000 ∷ NextStep 5000000 1000000 ∷ Leave ∷ []

  read_ahead : parts 0 taken_ahead ≡ record { messages = messages_ahead; rest = []; fault = None }
  unfolding is_message is_time is_step_size spelling kind_of fields name text time step_size role
  read_ahead = read_whole taken_ahead messages_ahead refl (hello_fits true, (refl, (refl, (refl, tt))))

  abbrev messages_ended : List Content
  messages_ended = hello_of_b true ∷ NextStep 0 1000000 ∷ NextStep 1000000 1000000 ∷ []

  read_ended : parts 0 taken_ended ≡ record { messages = messages_ended; rest = []; fault = None }
  unfolding is_message is_time is_step_size spelling kind_of fields name text time step_size role
  read_ended = read_whole taken_ended messages_ended refl (hello_fits true, (refl, (refl, tt)))

  abbrev messages_below : List Content
  messages_below = hello_of_b true ∷ NextStep 0 1000000 ∷ NextStep 999999 1000000 ∷ []

  read_below : parts 0 taken_below ≡ record { messages = messages_below; rest = []; fault = None }
  unfolding is_message is_time is_step_size spelling kind_of fields name text time step_size role
  read_below = read_whole taken_below messages_below refl (hello_fits true, (refl, (refl, tt)))

  -- the steps that begin, and what is written after them
  given_by : (b out : List ℕ) (ms : List Content) (n : ℕ) → heard b ≡ ms
      → count_below (λ i. ltb (i * 1000000) 3000000 && may_begin ms (i * 1000000)) (all_steps 1000000 3000000) ≡ n
      → output (65 ∷ []) 1000000 3000000 n ≡ out → pipe_out (65 ∷ []) 1000000 3000000 b ≡ out
  given_by b out ms n e counted f =
      let begun : steps_begun 1000000 3000000 (heard b) ≡ n = ap (steps_begun 1000000 3000000) e ∙ steps_begun-count 1000000 3000000 ms n (omega arith) counted in
      ap (output (65 ∷ []) 1000000 3000000) begun ∙ f

  pub ahead : pipe_out (65 ∷ []) 1000000 3000000 taken_ahead ≡ given_ahead
  unfolding hello next_step leave spelling kind_of fields name text time step_size role
  ahead = given_by taken_ahead given_ahead (orderly [] messages_ahead) 3 (heard_of taken_ahead messages_ahead read_ahead) refl refl

  pub ended : pipe_out (65 ∷ []) 1000000 3000000 taken_ended ≡ given_ended
  unfolding hello next_step leave spelling kind_of fields name text time step_size role
  ended = given_by taken_ended given_ended (orderly [] messages_ended) 2 (heard_of taken_ended messages_ended read_ended) refl refl

  pub below : pipe_out (65 ∷ []) 1000000 3000000 taken_below ≡ given_below
  unfolding hello next_step leave spelling kind_of fields name text time step_size role
  below = given_by taken_below given_below (orderly [] messages_below) 1 (heard_of taken_below messages_below read_below) refl refl

  pub at_once : pipe_out (65 ∷ []) 1 0 [] ≡ given_at_once
  unfolding hello next_step leave spelling kind_of fields name text time step_size role
  at_once = refl

  -- ## Talks of no run

  pub early : (more : List Said) → IsInStep (65 ∷ []) 10 30 (early_talk more) → ⊥
  unfolding parts hello next_step leave spelling kind_of fields name text time step_size role
  early more h = let e = ap (λ (xs : List ℕ). length xs) (h.prefix 1 (omega arith)).1 in omega (arith, e)

  pub late : (more : List Said) → IsInStep (65 ∷ []) 10 30 (late_talk more) → ⊥
  unfolding parts hello next_step leave spelling kind_of fields name text time step_size role
  late more h =
      elim (h.whole 0 NoneTaken refl refl) [
        | inl e ↦ (let l = ap (λ (xs : List ℕ). length xs) e in omega (arith, l))
        | inr held ↦ not_held_at_start held
      ]

  abbrev taken_earlier : List ℕ
  taken_earlier = spelling (hello_of_b true) ++ spelling (NextStep 9 10)

  heard_earlier : heard taken_earlier ≡ hello_of_b true ∷ NextStep 9 10 ∷ []
  unfolding is_message is_time is_step_size
  heard_earlier = heard_of taken_earlier (hello_of_b true ∷ NextStep 9 10 ∷ []) (read_whole taken_earlier (hello_of_b true ∷ NextStep 9 10 ∷ []) regrouped (hello_fits true, (refl, tt)))
    where
      regrouped : taken_earlier ≡ flat_map spelling (hello_of_b true ∷ NextStep 9 10 ∷ []) ++ []
      regrouped = simp append-nil

  pub one_earlier : (more : List Said) → IsInStep (65 ∷ []) 10 30 (one_earlier_talk more) → ⊥
  unfolding hello next_step leave spelling kind_of fields name text time step_size role
  one_earlier more h =
      let out : pipe_out (65 ∷ []) 10 30 (taken_earlier ++ []) ≡ output (65 ∷ []) 10 30 1 = ap (pipe_out (65 ∷ []) 10 30) (append-nil taken_earlier) ∙ ap (λ (ms : List Content). output (65 ∷ []) 10 30 (steps_begun 10 30 ms)) heard_earlier in
      let e = ap (λ (xs : List ℕ). length xs) ((h.prefix 3 (omega arith)).1 ∙ out) in
      omega (arith, e)

  abbrev taken_longer : List ℕ
  taken_longer = spelling (hello_of_b false) ++ spelling Leave

  end_longer : end_of taken_longer ≡ Some Left
  unfolding is_message
  end_longer = end_of_read taken_longer (hello_of_b false ∷ Leave ∷ []) (read_whole taken_longer (hello_of_b false ∷ Leave ∷ []) regrouped (hello_fits false, (refl, tt)))
    where
      regrouped : taken_longer ≡ flat_map spelling (hello_of_b false ∷ Leave ∷ []) ++ []
      regrouped = simp append-nil

  pub longer : (more : List Said) → IsInStep (65 ∷ []) 10 30 (longer_talk more) → ⊥
  longer more h =
      let asks : end_of (taken_longer ++ []) ≡ None = (h.asks 2 NoneTaken refl refl).open_still in
      let both : Some Left ≡ None = sym end_longer ∙ ap end_of (sym (append-nil taken_longer)) ∙ asks in
      absurd (some_is_not_none Left both)
    where
      some_is_not_none : (x : PeerEnding) → ◌≡◌ {A = Option PeerEnding} (Some x) None → ⊥
      some_is_not_none x e = cc
