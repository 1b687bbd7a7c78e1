-- A call of the app, and all that follows it.
use Rattle.std.specs.Prelude.{◌≡◌, ℕ, ◌==◌, Bool, not, ◌&&◌, IsTrue, List, [], ◌∷◌, ◌++◌, length, map}
use Rattle.std.specs.List.{list_all}
use mathlib.Core.List.{IsPrefix}
use Rattle.sk_msg.specs.declared.content.Content.{Content}
use Rattle.sk_law.specs.declared.made.Call.{Call}
use Rattle.sk_law.specs.declared.made.Call.TheVariants as calls
use Rattle.sk_law.specs.declared.made.Made.{Made}
use Rattle.sk_law.specs.Blocks.{called, callback, callbacks, take_step}
use Rattle.sk_law.specs.Lawful.{is_filled}
use Rattle.sk_law.specs.Outbox.{Outbox}
use Rattle.sk_law.specs.Kept.{Kept, IsCut, grown}
use Rattle.sk_node.specs.Lists.{Lists, Tells, TellsCut}

-- a call with what it asked for
abbrev pub item : Call → Outbox → Made
item call out = record { call = call; actions = out.actions; over = out.over }

-- a call that asks for nothing, in place of one that wasn't made
abbrev pub is_idle : Made → Bool
is_idle one = length one.actions == 0 && not one.over

-- the app was called once for actions, they were answered, and it was told of all that
pub record Calls (old new : Kept) (call : Call) (was now : Lists) : Type 0 where
  pub one : Made
  pub call_is : one.call ≡ call
  pub filled : IsTrue (is_filled one)
  pub made : now.made ≡ was.made ++ one ∷ []
  pub past : new ≡ grown (callback old.setup old.past one) old
  pub told : Tells old.past.journal new.past.journal was now

-- memory was refused within it, before the app was called or behind it; where it wasn't called no more came than the entry
-- that shows the call
pub record CallsCut (old new : Kept) (call : Call) (was now : Lists) : Type 0 where
  pub one : Made
  pub call_is : one.call ≡ call
  pub filled : IsTrue (is_filled one)
  pub made : List Made
  pub others : List Made
  pub idle : IsTrue (list_all is_idle others)
  pub both : made ++ others ≡ one ∷ []
  pub uncalled : (other : Made) → others ≡ other ∷ [] → IsPrefix new.past.journal (called other.call old.past).journal
  pub calls : now.made ≡ was.made ++ made
  pub cut : IsCut old new (callback old.setup old.past one)
  pub told : TellsCut old.past.journal new.past.journal was now

-- a step: its call, the answers, and the end of a blocking one
pub record Steps (old new : Kept) (call : Call) (was now : Lists) : Type 0 where
  pub one : Made
  pub call_is : one.call ≡ call
  pub filled : IsTrue (is_filled one)
  pub made : now.made ≡ was.made ++ one ∷ []
  pub past : new ≡ grown (take_step old.setup one old.past) old
  pub told : Tells old.past.journal new.past.journal was now

-- memory was refused within it, as above
pub record StepsCut (old new : Kept) (call : Call) (was now : Lists) : Type 0 where
  pub one : Made
  pub call_is : one.call ≡ call
  pub filled : IsTrue (is_filled one)
  pub made : List Made
  pub others : List Made
  pub idle : IsTrue (list_all is_idle others)
  pub both : made ++ others ≡ one ∷ []
  pub uncalled : (other : Made) → others ≡ other ∷ [] → IsPrefix new.past.journal (called other.call old.past).journal
  pub calls : now.made ≡ was.made ++ made
  pub cut : IsCut old new (take_step old.setup one old.past)
  pub told : TellsCut old.past.journal new.past.journal was now

-- the calls with a message of a peer at this place, one for each of these services
abbrev pub handings : ℕ → ℕ → Content → List ℕ → List Call
handings p place m services = map (λ r. calls.Message p place r m) services

-- the app was called once for each of these, one after another, and each time was answered
pub record CallsAll (old new : Kept) (all : List Call) (was now : Lists) : Type 0 where
  pub each : List Made
  pub calls_are : map (λ one. one.call) each ≡ all
  pub filled : IsTrue (list_all is_filled each)
  pub made : now.made ≡ was.made ++ each
  pub past : new ≡ grown (callbacks old.setup each old.past) old
  pub told : Tells old.past.journal new.past.journal was now

-- memory was refused within it: those that were called, and those that weren't, as if they asked for nothing; behind those that
-- were called no more came than the entry that shows the next call
pub record CallsAllCut (old new : Kept) (all : List Call) (was now : Lists) : Type 0 where
  pub each : List Made
  pub others : List Made
  pub calls_are : map (λ one. one.call) (each ++ others) ≡ all
  pub filled : IsTrue (list_all is_filled (each ++ others))
  pub idle : IsTrue (list_all is_idle others)
  pub uncalled : (other : Made) (more : List Made) → others ≡ other ∷ more →
      IsPrefix new.past.journal (called other.call (callbacks old.setup each old.past)).journal
  pub made : now.made ≡ was.made ++ each
  pub cut : IsCut old new (callbacks old.setup (each ++ others) old.past)
  pub told : TellsCut old.past.journal new.past.journal was now
