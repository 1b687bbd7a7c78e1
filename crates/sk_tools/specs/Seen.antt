-- The outside before and after a call.
use Rattle.std.specs.Prelude.{ℕ, Bool, Option, List}
use Rattle.sk_base.specs.Talk.{Said}

pub record LinkSeen : Type 0 where
  pub tells : Bool
  pub faults : ℕ
  pub faults_now : ℕ
  pub talk : List Said
  pub talk_now : List Said

pub record SinkSeen : Type 0 where
  pub tells : Bool
  pub faults : ℕ
  pub faults_now : ℕ
  pub written : List ℕ
  pub written_now : List ℕ

pub record FilesSeen : Type 0 where
  pub tells : Bool
  pub faults : ℕ
  pub faults_now : ℕ
  pub content : List ℕ → Option (List ℕ)
