-- What one more entry makes of the plain readings.
use Rattle.std.specs.Prelude.{◌≡◌, refl, ℕ, ◌+◌, ◌≤◌, min, suc, List, [], ◌∷◌, ◌++◌, length, Option, Some, None}
use Rattle.std.specs.List.{filter_map, cons_option}
use Rattle.std.proofs.Common.{sym, arith}
use Rattle.sk_msg.specs.declared.entry.Entry.{Entry}
use Rattle.sk_msg.specs.declared.entry.Entry.TheVariants.{Got, Put, Hand, State as Entered, System as Judged, Begin, Done, End, Ask, Gone, Stray, Did, Fault}
use Rattle.sk_law.specs.Growing.{GoesByEntries}
use Rattle.sk_law.specs.Readings.{payload, payload_in}
use Rattle.sk_law.specs.Tallies.{most, tally_of, tally_after, payload_after}

least_more : (a b : ℕ) → min most (min most a + b) ≡ min most (a + b)
least_more a b = omega arith

least_none : (a : ℕ) → min most (a + 0) ≡ min most a
least_none a = omega arith

payload-step : (n : ℕ) (e : Entry) → min most (n + payload_in e) ≡ payload_after (min most n) e
payload-step n (Got p m) = sym (least_more n _)
payload-step n (Put p m) = sym (least_more n _)
payload-step n (Hand p k r) = least_none n
payload-step n (Entered s) = least_none n
payload-step n (Judged s) = least_none n
payload-step n (Begin k t) = least_none n
payload-step n (Done k) = least_none n
payload-step n (End k) = least_none n
payload-step n (Ask c v) = least_none n
payload-step n (Gone p r) = least_none n
payload-step n (Stray k) = least_none n
payload-step n (Did s c m) = least_none n
payload-step n (Fault k) = least_none n

pub tally-add : (law : GoesByEntries) (es : List Entry) (e : Entry) → tally_of (es ++ e ∷ []) ≡ tally_after (tally_of es) e
tally-add law es e = rw (
  law.state es e,
  law.system es e,
  law.run es e,
  law.begun es e,
  law.step es e,
  law.number es e,
  law.completed es e,
  law.payload_is es e,
  payload-step (payload es) e,
) refl

-- a list of what is found is no longer
pub few-of : {X Y : Type 0} (f : X → Option Y) (xs : List X) → length (filter_map f xs) ≤ length xs
few-of f [] = omega arith
few-of {X} {Y} f (x ∷ xs) = on (f x) (few-of f xs)
  where
    on : (o : Option Y) → length (filter_map f xs) ≤ length xs → length (cons_option o (filter_map f xs)) ≤ suc (length xs)
    on None le = omega arith
    on (Some y) le = omega arith
