-- What the status of a run of `pipe` says.
use Rattle.std.proofs.Common.{◌≡◌, ◌≢◌, ◌⊎◌, ℕ, ◌≤◌, ◌<◌, ◌^◌, List, [], ◌++◌, length, take, true, Some, None, refl, sym, ap, ◌∙◌, inl, inr, arith, append-nil, subst}
use Rattle.std.proofs.lemmas.List.{drop_at}
use Rattle.std.proofs.Math.Seq.{take-length}
use Rattle.sk_base.specs.Statuses.{status_number}
use Rattle.sk_base.specs.Talk.{Said, Rose, given, taken}
use Rattle.sk_connection.specs.Talks.{waiting, IsPatient, IsTired}
use Rattle.sk_pipe.specs.Pipe.{pipe_out}
use Rattle.sk_pipe.specs.Run.{Cause, CountsFaults, HasLeft, IsBroken, HasNoLeave, IsFull, IsInStep, IsPipe, IsWhole}
use Rattle.sk_tools.specs.Words.{PipePlan, plan_of}
use Rattle.sk_tools.specs.Usage.{IsRefusalOf, ends_refused}
use Rattle.sk_tools.specs.declared.words.Refused.{Refused}
use Rattle.sk_tools.specs.declared.words.Refused.TheVariants as refused
use Rattle.sk_tools.specs.Top.{pipe_exit, IsExactly, IsPipeStatus, IsStopped, IsThrough, InRun, said_since}
use Rattle.sk_tools.specs.Seen.{LinkSeen}
use Rattle.sk_tools.specs.PipeCall.{IsPipeCall}
use Rattle.sk_pipe.specs.declared.ending.PipeEnding.{PipeEnding}
use Rattle.sk_pipe.specs.declared.ending.PipeEnding.TheVariants as endings

said_since-append : (before talk : List Said) → said_since before (before ++ talk) ≡ talk
said_since-append before talk = drop_at before talk (length before) refl

said_since-same : (before : List Said) → said_since before before ≡ []
said_since-same before = ap (said_since before) (sym (append-nil before)) ∙ said_since-append before []

-- the number of an end
abbrev pub number : PipeEnding → ℕ
number ended = status_number (pipe_exit ended)

known : (ended : PipeEnding) → IsPipeStatus (number ended)
known endings.Left = refl
known endings.LinkFault = refl
known endings.Memory = refl
known endings.Limit = refl
known endings.BadInput = refl
known endings.NoLeave = refl

no_usage : (ended : PipeEnding) → number ended ≡ 2 → ⊥
no_usage endings.Left e = omega arith
no_usage endings.LinkFault e = omega arith
no_usage endings.Memory e = omega arith
no_usage endings.Limit e = omega arith
no_usage endings.BadInput e = omega arith
no_usage endings.NoLeave e = omega arith

-- where nothing was said all is in step
in_step_none : (name : List ℕ) (step duration : ℕ) → IsInStep name step duration []
in_step_none name step duration = record {
  prefix = λ k h. let first : k ≡ 0 = omega (arith, h) in rw first (pipe_out name step duration [], refl);
  whole = λ k said is. absurd (let none : None ≡ Some said = is in cc);
  asks = λ k said is. absurd (let none : None ≡ Some said = is in cc);
  yields = λ k said front is. absurd (let none : None ≡ Some said = is in cc);
}

-- patience, and so many answers NotYet in a row
not_tired : (talk : List Said) → IsPatient talk → IsTired talk → ⊥
not_tired talk patient tired = let few = patient tired.0 tired.1 in omega (arith, few, tired.2)

not_full_end : (talk : List Said) → length (taken talk) < 2 ^ 32 → IsFull talk → ⊥
not_full_end talk few full = omega (arith, few, full.1)

left : (ended : PipeEnding) (talk : List Said) → Cause ended talk → IsExactly 0 (HasLeft talk) (number ended)
left endings.Left talk c = record { only = λ _. c.0; wherever = λ _. inl refl }
left endings.LinkFault talk c = record { only = λ e. absurd (omega arith); wherever = λ _. inr (inl refl) }
left endings.Memory talk c = record { only = λ e. absurd (omega arith); wherever = λ _. inr (inr (inl refl)) }
left endings.Limit talk c = record { only = λ e. absurd (omega arith); wherever = λ _. inr (inr (inr refl)) }
left endings.BadInput talk c = record { only = λ e. absurd (omega arith); wherever = λ h. absurd (let one = c.0 in cc) }
left endings.NoLeave talk c = record { only = λ e. absurd (omega arith); wherever = λ h. absurd (let one = c.0.0 in cc) }

broken : (ended : PipeEnding) (talk : List Said) → Cause ended talk → IsExactly 10 (IsBroken talk) (number ended)
broken endings.Left talk c = record { only = λ e. absurd (omega arith); wherever = λ h. absurd (let one = c.0 in cc) }
broken endings.LinkFault talk c = record { only = λ e. absurd (omega arith); wherever = λ _. inr (inl refl) }
broken endings.Memory talk c = record { only = λ e. absurd (omega arith); wherever = λ _. inr (inr (inl refl)) }
broken endings.Limit talk c = record { only = λ e. absurd (omega arith); wherever = λ _. inr (inr (inr refl)) }
broken endings.BadInput talk c = record { only = λ _. c.0; wherever = λ _. inl refl }
broken endings.NoLeave talk c = record { only = λ e. absurd (omega arith); wherever = λ h. absurd (let one = c.0.0 in cc) }

no_leave : (ended : PipeEnding) (talk : List Said) → Cause ended talk → IsExactly 11 (HasNoLeave talk) (number ended)
no_leave endings.Left talk c = record { only = λ e. absurd (omega arith); wherever = λ h. absurd (let one = c.0 in let none = h.0 in cc) }
no_leave endings.LinkFault talk c = record { only = λ e. absurd (omega arith); wherever = λ _. inr (inl refl) }
no_leave endings.Memory talk c = record { only = λ e. absurd (omega arith); wherever = λ _. inr (inr (inl refl)) }
no_leave endings.Limit talk c = record { only = λ e. absurd (omega arith); wherever = λ _. inr (inr (inr refl)) }
no_leave endings.BadInput talk c = record { only = λ e. absurd (omega arith); wherever = λ h. absurd (let one = c.0 in let none = h.0 in cc) }
no_leave endings.NoLeave talk c = record { only = λ _. c.0; wherever = λ _. inl refl }

-- the bound of bytes, or that of answers NotYet
limit : (ended : PipeEnding) (talk : List Said) → Cause ended talk → number ended ≡ 8 → IsFull talk ⊎ IsTired talk
limit endings.Left talk c e = absurd (omega arith)
limit endings.LinkFault talk c e = absurd (omega arith)
limit endings.Memory talk c e = absurd (omega arith)
limit endings.Limit talk (inl full) e = inl full
limit endings.Limit talk (inr many) e = inr (length talk, omega arith, rw (take-length talk) many)
limit endings.BadInput talk c e = absurd (omega arith)
limit endings.NoLeave talk c e = absurd (omega arith)

full : (ended : PipeEnding) (talk : List Said) → Cause ended talk → IsFull talk → IsStopped (number ended)
full endings.Left talk c h = absurd (let one = c.0 in let none = h.0 in cc)
full endings.LinkFault talk c h = inl refl
full endings.Memory talk c h = inr (inl refl)
full endings.Limit talk c h = inr (inr refl)
full endings.BadInput talk c h = absurd (let one = c.0 in let none = h.0 in cc)
full endings.NoLeave talk c h = absurd (not_full_end talk c.1 h)

tired : (ended : PipeEnding) (talk : List Said) → Cause ended talk → IsTired talk → number ended ≡ 8
tired endings.Left talk c h = absurd (not_tired talk c.1 h)
tired endings.LinkFault talk c h = absurd (not_tired talk c h)
tired endings.Memory talk c h = absurd (not_tired talk c h)
tired endings.Limit talk c h = refl
tired endings.BadInput talk c h = absurd (not_tired talk c.1 h)
tired endings.NoLeave talk c h = absurd (not_tired talk c.2 h)

whole_at : (ended : PipeEnding) → IsThrough (number ended) → IsWhole ended
whole_at endings.Left h = tt
whole_at endings.LinkFault (inl e) = absurd (omega arith)
whole_at endings.LinkFault (inr (inl e)) = absurd (omega arith)
whole_at endings.LinkFault (inr (inr e)) = absurd (omega arith)
whole_at endings.Memory (inl e) = absurd (omega arith)
whole_at endings.Memory (inr (inl e)) = absurd (omega arith)
whole_at endings.Memory (inr (inr e)) = absurd (omega arith)
whole_at endings.Limit (inl e) = absurd (omega arith)
whole_at endings.Limit (inr (inl e)) = absurd (omega arith)
whole_at endings.Limit (inr (inr e)) = absurd (omega arith)
whole_at endings.BadInput h = tt
whole_at endings.NoLeave h = tt

by_faults : (ended : PipeEnding) (before now : ℕ) → CountsFaults ended before now → (number ended ≡ 4 → Rose before now) × (number ended ≢ 4 → now ≡ before)
by_faults endings.Left before now c = (λ e. absurd (omega arith), λ _. c)
by_faults endings.LinkFault before now c = (λ _. c, λ n. absurd (n refl))
by_faults endings.Memory before now c = (λ e. absurd (omega arith), λ _. c)
by_faults endings.Limit before now c = (λ e. absurd (omega arith), λ _. c)
by_faults endings.BadInput before now c = (λ e. absurd (omega arith), λ _. c)
by_faults endings.NoLeave before now c = (λ e. absurd (omega arith), λ _. c)

-- a run by this plan, which ended so: all that was said since is its talk
abbrev Ran : PipePlan → LinkSeen → PipeEnding → Type 0
Ran plan link ended = link.tells ≡ true → (talk : List Said) × (link.talk_now ≡ link.talk ++ talk) × IsPipe plan.name plan.step plan.duration talk ended

module _ (words : List (List ℕ)) (plan : PipePlan) (link : LinkSeen) (ended : PipeEnding) (reads : plan_of words ≡ Some plan) (ran : Ran plan link ended) where
  -- what holds of the run holds of the plan that the words say, and of what was said since
  in_run : (P : PipePlan → List Said → Type 0) → ((talk : List Said) → IsPipe plan.name plan.step plan.duration talk ended → P plan talk)
      → InRun words link.tells link.talk link.talk_now P
  in_run P holds told other is =
      let run = ran told in
      let same : plan ≡ other = let one = reads in cc in
      let said : said_since link.talk link.talk_now ≡ run.0 = ap (said_since link.talk) run.1 ∙ said_since-append link.talk run.0 in
      subst (λ p. P p (said_since link.talk link.talk_now)) same (subst (λ (t : List Said). P plan t) (sym said) (holds run.0 run.2))

  pub pipe_ran : CountsFaults ended link.faults link.faults_now → IsPipeCall words link (number ended)
  pipe_ran counts = record {
    usage = (λ e. absurd (no_usage ended e), λ none. absurd (let one = reads in cc));
    known = known ended;
    fault = (by_faults ended link.faults link.faults_now counts).0;
    steady = (by_faults ended link.faults link.faults_now counts).1;
    talk = λ told.
        let run = ran told in
        run.1 ∙ ap (λ (t : List Said). link.talk ++ t) (sym (ap (said_since link.talk) run.1 ∙ said_since-append link.talk run.0));
    silent = λ told none. absurd (let one = reads in cc);
    in_step = in_run (λ p said. IsInStep p.name p.step p.duration said) (λ talk run. run.in_step);
    whole = in_run (λ p said. IsThrough (number ended) → given said ≡ pipe_out p.name p.step p.duration (taken said)) (λ talk run through. run.whole (whole_at ended through));
    left = in_run (λ _ said. IsExactly 0 (HasLeft said) (number ended)) (λ talk run. left ended talk run.cause);
    broken = in_run (λ _ said. IsExactly 10 (IsBroken said) (number ended)) (λ talk run. broken ended talk run.cause);
    no_leave = in_run (λ _ said. IsExactly 11 (HasNoLeave said) (number ended)) (λ talk run. no_leave ended talk run.cause);
    limit = in_run (λ _ said. number ended ≡ 8 → IsFull said ⊎ IsTired said) (λ talk run. limit ended talk run.cause);
    full = in_run (λ _ said. IsFull said → IsStopped (number ended)) (λ talk run. full ended talk run.cause);
    tired = in_run (λ _ said. IsTired said → number ended ≡ 8) (λ talk run. tired ended talk run.cause);
  }

-- nothing was said: the words have no reading, or memory ran out
not_tired_yet : IsTired [] → ⊥
not_tired_yet waits =
    let first : waits.0 ≡ 0 = omega (arith, waits.1) in
    let many : 1048576 ≤ waiting (take waits.0 []) = waits.2 in
    let none : 1048576 ≤ 0 = rw first at many in
    omega (arith, none)

module _ (words : List (List ℕ)) (link : LinkSeen) (same : link.talk_now ≡ link.talk) where
  nothing_said : said_since link.talk link.talk_now ≡ []
  nothing_said = ap (said_since link.talk) same ∙ said_since-same link.talk

  talk_stays : link.talk_now ≡ link.talk ++ said_since link.talk link.talk_now
  talk_stays = same ∙ sym (append-nil link.talk) ∙ ap (λ (t : List Said). link.talk ++ t) (sym nothing_said)

  pub pipe_refused : link.faults_now ≡ link.faults → plan_of words ≡ None → IsPipeCall words link 2
  pipe_refused steady none = record {
    usage = (λ _. none, λ _. inl refl);
    known = refl;
    fault = λ e. absurd (omega arith);
    steady = λ _. steady;
    talk = λ told. talk_stays;
    silent = λ told _. same;
    in_step = λ told plan is. absurd (let one = none in cc);
    whole = λ told plan is. absurd (let one = none in cc);
    left = λ told plan is. absurd (let one = none in cc);
    broken = λ told plan is. absurd (let one = none in cc);
    no_leave = λ told plan is. absurd (let one = none in cc);
    limit = λ told plan is. absurd (let one = none in cc);
    full = λ told plan is. absurd (let one = none in cc);
    tired = λ told plan is. absurd (let one = none in cc);
  }

  pub pipe_unread : link.faults_now ≡ link.faults → IsPipeCall words link 5
  pipe_unread steady = record {
    usage = (λ e. absurd (omega arith), λ _. inr refl);
    known = refl;
    fault = λ e. absurd (omega arith);
    steady = λ _. steady;
    talk = λ told. talk_stays;
    silent = λ told _. same;
    in_step = λ told plan is. subst (λ (t : List Said). IsInStep plan.name plan.step plan.duration t) (sym nothing_said) (in_step_none plan.name plan.step plan.duration);
    whole = λ told plan is through. absurd (whole_at endings.Memory through);
    left = λ told plan is. record { only = λ e. absurd (omega arith); wherever = λ _. inr (inr (inl refl)) };
    broken = λ told plan is. record { only = λ e. absurd (omega arith); wherever = λ _. inr (inr (inl refl)) };
    no_leave = λ told plan is. record { only = λ e. absurd (omega arith); wherever = λ _. inr (inr (inl refl)) };
    limit = λ told plan is e. absurd (omega arith);
    full = λ told plan is h. inr (inl refl);
    tired = λ told plan is h. absurd (not_tired_yet (subst (λ (t : List Said). IsTired t) nothing_said h));
  }

  pub pipe_still : (why : Refused) → link.faults_now ≡ link.faults → IsRefusalOf (plan_of words) why → IsPipeCall words link (status_number (ends_refused why))
  pipe_still (refused.Words text) steady none = pipe_refused steady none
  pipe_still refused.Usage steady none = pipe_refused steady none
  pipe_still refused.WantOfMemory steady none = pipe_unread steady
