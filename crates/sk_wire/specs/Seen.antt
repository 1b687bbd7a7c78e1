-- What the code's answers on a stream stand for.
use Rattle.std.specs.Prelude.{List, ◌++◌}
use Rattle.sk_msg.specs.declared.content.Content.{Content}
use Rattle.sk_wire.specs.declared.frames.Front as code
use Rattle.sk_wire.specs.declared.frames.Front.TheVariants as found
use Rattle.sk_wire.specs.declared.frames.Frames.{Frames}
use Rattle.sk_wire.specs.Stream.{Parts}
use Rattle.sk_wire.specs.Parts.{Front, Open, Whole, Broken}

abbrev pub seen : code.Front → Front
seen found.Open = Open
seen (found.Whole m behind) = Whole m behind.now
seen (found.Broken f) = Broken f

abbrev pub frames_parts : Frames → Parts
frames_parts frames = record { messages = frames.messages.items; rest = frames.rest.now; fault = frames.fault }

-- these messages in front
abbrev pub following : List Content → Parts → Parts
following before p = record { messages = before ++ p.messages; rest = p.rest; fault = p.fault }
