-- What `pipe` promises: the clauses of its own call and of the top call.
use Rattle.std.specs.Prelude.{◌≡◌, ◌≢◌, ◌⊎◌, ◌++◌, ℕ, true, None, List}
use Rattle.sk_base.specs.Talk.{Rose, given, taken}
use Rattle.sk_tools.specs.Words.{plan_of}
use Rattle.sk_connection.specs.Talks.{IsTired}
use Rattle.sk_pipe.specs.Pipe.{pipe_out}
use Rattle.sk_pipe.specs.Run.{IsInStep, HasLeft, IsBroken, HasNoLeave, IsFull}
use Rattle.sk_tools.specs.Top.{said_since, InRun, IsExactly, IsPipeStatus, IsStopped, IsThrough}
use Rattle.sk_tools.specs.Usage.{IsUsage}
use Rattle.sk_tools.specs.Seen.{LinkSeen}

-- by the words, the link and the answer
pub record IsPipeCall (words : List (List ℕ)) (link : LinkSeen) (answer : ℕ) : Type 0 where
  pub usage : IsUsage (plan_of words) answer
  pub known : IsPipeStatus answer
  -- the count of the link's faults rose with status 4, and with no other
  pub fault : answer ≡ 4 → Rose link.faults link.faults_now
  pub steady : answer ≢ 4 → link.faults_now ≡ link.faults
  -- what was said before the call stays; without a reading nothing is said
  pub talk : link.tells ≡ true → link.talk_now ≡ link.talk ++ said_since link.talk link.talk_now
  pub silent : link.tells ≡ true → plan_of words ≡ None → link.talk_now ≡ link.talk
  -- at every place of the talk what was given is what is due for the bytes taken, and no more
  pub in_step : InRun words link.tells link.talk link.talk_now (λ plan said. IsInStep plan.name plan.step plan.duration said)
  pub whole : InRun words link.tells link.talk link.talk_now
      (λ plan said. IsThrough answer → given said ≡ pipe_out plan.name plan.step plan.duration (taken said))
  -- each status has its cause, and each cause its status
  pub left : InRun words link.tells link.talk link.talk_now (λ _ said. IsExactly 0 (HasLeft said) answer)
  pub broken : InRun words link.tells link.talk link.talk_now (λ _ said. IsExactly 10 (IsBroken said) answer)
  pub no_leave : InRun words link.tells link.talk link.talk_now (λ _ said. IsExactly 11 (HasNoLeave said) answer)
  pub limit : InRun words link.tells link.talk link.talk_now (λ _ said. answer ≡ 8 → IsFull said ⊎ IsTired said)
  pub full : InRun words link.tells link.talk link.talk_now (λ _ said. IsFull said → IsStopped answer)
  pub tired : InRun words link.tells link.talk link.talk_now (λ _ said. IsTired said → answer ≡ 8)
