use Rattle.std.proofs.Common.{◌≡◌, ◌+◌, ◌-◌, ◌≤◌, length}
use Rattle.sk_wire.specs.Parts.{parts}
use Rattle.sk_wire.specs.Seen.{following}
use Rattle.sk_wire.proofs.frames.frames_of.Given as goal

abbrev pub invariant-loop-messages : goal.invariant-loop-messages
invariant-loop-messages l = record {
  shorter : length l.rest ≤ length l.bytes;
  so_far : following l.fn.before.items (parts l.at l.bytes) ≡ following l.messages.items (parts (l.at + (length l.bytes - length l.rest)) l.rest);
}

abbrev pub decreases-loop-messages : goal.decreases-loop-messages
decreases-loop-messages l = length l.rest
