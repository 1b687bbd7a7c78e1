use Rattle.std.proofs.Common.{◌≡◌, ◌+◌, ◌-◌, List, ℕ, length, ap, ◌∙◌, arith}
use Rattle.std.specs.Int.{w32, to_le_bytes}
use Rattle.std.proofs.lemmas.List.{length-append}
use Rattle.sk_wire.specs.Grammar.{body, spelling}
use Rattle.sk_wire.proofs.GrammarLaws.{body_bound}
use Rattle.sk_wire.proofs.PutLaws.{frame_made}
use Rattle.sk_wire.proofs.frames.put_frame.Goals as goal
use Rattle.sk_wire.proofs.frames.put_frame.Goals.{After-len}

len_is : (c : After-len) → c.len.result - c.len-start.result - 4 ≡ length (body c.args.content.now)
len_is c =
    let one : length c.put_u32.new.to.items ≡ length c.args.to.now.items + 4 = ap (λ (xs : List ℕ). length xs) c.in_ok-put_u32.ensures ∙ length-append c.args.to.now.items (to_le_bytes w32 0) in
    let two : length c.put_body.new.to.items ≡ length c.put_u32.new.to.items + length (body c.args.content.now) = ap (λ (xs : List ℕ). length xs) c.in_ok-put_body.ensures ∙ length-append c.put_u32.new.to.items (body c.args.content.now) in
    omega arith

pub overflow_cast-len : goal.overflow_cast-len
overflow_cast-len c = let len = len_is (goal.at.overflow_cast-len c).After-len in let b = body_bound c.args.content.now c.requires in omega (arith, len, b.1)

pub returns : goal.returns
unfolding spelling
returns c = frame_made c.args.to.now.items c.put_u32.new.to.items c.put_body.new.to.items c.set_u32.new.to.items (body c.args.content.now) c.len-start.result (c.len.result - c.len-start.result - 4)
    c.in_ok-put_u32.ensures c.in_ok-put_body.ensures (omega arith) (len_is (goal.at.returns c).After-len) c.set_u32.ensures
