-- What the fields of `Calls` stand for.
use Rattle.std.specs.Prelude.{List}
use Rattle.std.specs.List.{IsDistinct}
use Rattle.sk_rpc.specs.OpenCalls.{is_call}
use Rattle.sk_rpc.specs.declared.open_call.OpenCall.{OpenCall}
use Rattle.sk_rpc.specs.declared.calls.Calls.TheInside.{Inside}

-- those that wait for an answer, in the order in which they came
abbrev pub calls_of : Inside → List OpenCall
calls_of c = c.waiting.keys

-- no call stands twice
abbrev pub IsKept : Inside → Type 0
IsKept c = IsDistinct is_call (calls_of c)
