use Rattle.std.proofs.Common.{rules}
use Rattle.sk_wire.specs.Feeding.{Feeds}
use Rattle.sk_wire.proofs.DecoderLaws.{feeding_waits}
use Rattle.sk_wire.proofs.WholeLaws.{goes_on_by_feeding}
use Rattle.sk_wire.proofs.decoder.Decoder.feed.Goals as goal

pub invariant_of-self-in-Ok : goal.invariant_of-self-in-Ok
invariant_of-self-in-Ok c = feeding_waits c.self.inside.fed c.self.inside.buffer.items c.args.piece.now _ c.in-Ok.ensures.read c.self.invariant.within

pub returns-in-Some-clause-stream : goal.returns-in-Some-clause-stream
returns-in-Some-clause-stream c = goes_on_by_feeding c.args.self.now _ c.args.piece.now _ _ (search rules)

pub returns-in-Ok-clause-stream : goal.returns-in-Ok-clause-stream
returns-in-Ok-clause-stream c = goes_on_by_feeding c.args.self.now _ c.args.piece.now _ _ (search rules)
