-- What was asked of a net: each listen, connect and accept that was answered, and each listen and connect that
-- failed and could be kept, in one order.
use Rattle.std.specs.Prelude.{◌≡◌, ◌≢◌, ◌≤◌, ◌-◌, ◌++◌, ◌⊎◌, [], ◌∷◌, ◌||◌, ◌&&◌, ◌==◌, not, ℕ, Bool, false, List, length, take, codes, decimal, nat_eq, Option, Some, None, MatchBool}
use Rattle.std.specs.List.{ends_with}

-- one call with its answer
pub data Called : Type 0 where
  -- a listen at this address answered that it is bound to this one
  Listened : List ℕ → List ℕ → Called
  -- a connect to this address answered this link
  Connected : List ℕ → ℕ → Called
  -- an accept answered this link
  Accepted : ℕ → Called
  -- an accept answered that nobody waited
  NobodyWaited : Called
  -- a listen at, or a connect to, this address failed
  Refused : List ℕ → Called

-- what an accept said
abbrev pub called_by_accept : Option ℕ → Called
called_by_accept (Some link) = Accepted link
called_by_accept None = NobodyWaited

-- a listen or a connect for this address failed: that is told, unless there was no memory to keep it
abbrev pub IsRefused : List ℕ → List Called → List Called → Type 0
IsRefused address calls calls_now = (calls_now ≡ calls ++ Refused address ∷ []) ⊎ (calls_now ≡ calls)

-- the same for each link
abbrev pub Same : {A : Type 0} → (ℕ → A) → (ℕ → A) → Type 0
Same old new = (number : ℕ) → new number ≡ old number

-- the same for each link but this one
abbrev pub SameBut : {A : Type 0} → ℕ → (ℕ → A) → (ℕ → A) → Type 0
SameBut link old new = (number : ℕ) → number ≢ link → new number ≡ old number

-- this link, whose number was never used, is open now, and nothing else has changed
abbrev pub OpensLink : (ℕ → Bool) → (ℕ → Bool) → (ℕ → Bool) → (ℕ → Bool) → ℕ → Type 0
OpensLink is_open was_opened is_open_now was_opened_now link =
    (was_opened link ≡ false)
    × ((number : ℕ) → is_open_now number ≡ (number == link || is_open number))
    × ((number : ℕ) → was_opened_now number ≡ (number == link || was_opened number))

-- a link, or none and nothing has changed
abbrev pub OpensSome : (ℕ → Bool) → (ℕ → Bool) → (ℕ → Bool) → (ℕ → Bool) → Option ℕ → Type 0
OpensSome is_open was_opened is_open_now was_opened_now (Some link) = OpensLink is_open was_opened is_open_now was_opened_now link
OpensSome is_open was_opened is_open_now was_opened_now None = Same is_open is_open_now × Same was_opened was_opened_now

-- this link is open no more
abbrev pub Closes : ℕ → (ℕ → Bool) → (ℕ → Bool) → Type 0
Closes link is_open is_open_now = (number : ℕ) → is_open_now number ≡ (not (number == link) && is_open number)

-- where one listens who asked for this address: there; but where its port is 0, at some port from 1 to 65,535 of the same host
abbrev pub IsBoundTo : List ℕ → List ℕ → Type 0
IsBoundTo asked bound =
    MatchBool (ends_with nat_eq asked (codes ":0"))
    ((port : ℕ) × (1 ≤ port) × (port ≤ 65535) × (bound ≡ take (length asked - 1) asked ++ decimal port))
    (bound ≡ asked)
