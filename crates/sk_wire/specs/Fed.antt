-- What a piece gave, as parts of the stream.
use Rattle.std.specs.Prelude.{ℕ, List}
use Rattle.sk_wire.specs.declared.decoder.Fed.{Fed}
use Rattle.sk_wire.specs.Stream.{Parts}

-- with the open rest that is kept
abbrev pub fed_parts : Fed → List ℕ → Parts
fed_parts fed kept = record { messages = fed.messages.items; rest = kept; fault = fed.fault }
