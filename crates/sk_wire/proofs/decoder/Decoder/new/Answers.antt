use Rattle.sk_wire.proofs.DecoderLaws.{new_waits}
use Rattle.sk_wire.proofs.decoder.Decoder.new.Goals as goal

pub invariant_of-result : goal.invariant_of-result
invariant_of-result c = new_waits c.new.result.items c.new.ensures.items
