-- The plain readings of a journal in one record, and what an entry more makes of them.
use Rattle.std.specs.Prelude.{ℕ, ◌+◌, ◌-◌, ◌^◌, min, List, length}
use Rattle.sk_msg.specs.declared.entry.Entry.{Entry}
use Rattle.sk_msg.specs.declared.entry.Entry.TheVariants.{Got, Put}
use Rattle.sk_law.specs.Order.{carried}
use Rattle.sk_law.specs.Readings.{state_of, state_after, system_told, system_after, has_run, last_begun, begun_after, open_step, open_after, next_number, has_completed_ready, payload}
use Rattle.sk_law.specs.Growing.{run_after, number_after, completed_after}
use Rattle.sk_law.specs.declared.tally.Tally.{Tally}

-- the most that 64 bits hold
abbrev pub most : ℕ
most = 2 ^ 64 - 1

-- of these entries
abbrev pub tally_of : List Entry → Tally
tally_of es = record {
  state = state_of es;
  told = system_told es;
  has_run = has_run es;
  begun = last_begun es;
  step = open_step es;
  next = next_number es;
  has_completed = has_completed_ready es;
  payload = min most (payload es);
}

-- the payload bytes, as far as they are counted
abbrev pub payload_after : ℕ → Entry → ℕ
payload_after n (Got p m) = min most (n + length (carried m))
payload_after n (Put p m) = min most (n + length (carried m))
payload_after n _ = n

-- with an entry more
abbrev pub tally_after : Tally → Entry → Tally
tally_after t e = record {
  state = state_after t.state e;
  told = system_after t.told e;
  has_run = run_after t.has_run e;
  begun = begun_after t.begun e;
  step = open_after t.step e;
  next = number_after t.next e;
  has_completed = completed_after t.has_completed e;
  payload = payload_after t.payload e;
}
