use Rattle.std.proofs.Common.{arith}
use Rattle.hex.specs.Hex.{IsBytes}
use Rattle.sk_script_text.proofs.ValueLaws.{bytes_fine}
use Rattle.sk_script_text.proofs.object.Object.put_hex.Goals as goal

pub returns-then-is_empty-clause-bytes : goal.returns-then-is_empty-clause-bytes
returns-then-is_empty-clause-bytes c = let fit : IsBytes c.args.bytes.now = λ i. let f = c.type_inv.bytes i in omega arith in bytes_fine c.args.bytes.now fit

pub returns-in_err-text-clause-bytes : goal.returns-in_err-text-clause-bytes
returns-in_err-text-clause-bytes c = let fit : IsBytes c.args.bytes.now = λ i. let f = c.type_inv.bytes i in omega arith in bytes_fine c.args.bytes.now fit

pub returns-clause-bytes : goal.returns-clause-bytes
returns-clause-bytes c = let fit : IsBytes c.args.bytes.now = λ i. let f = c.type_inv.bytes i in omega arith in bytes_fine c.args.bytes.now fit
