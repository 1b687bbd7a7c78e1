-- What the fields of `Steps` stand for.
use Rattle.sk_timesync.specs.Notes.{Notes}
use Rattle.sk_timesync.specs.declared.steps.Steps.TheInside.{Inside}

abbrev pub notes_of : Inside → Notes
notes_of s = record { size = s.size; begun = s.begun; is_open = s.is_open; next = s.next; peers = s.peers.items }
