use Rattle.std.proofs.Common.{◌≡◌, ◌+◌, ◌-◌, ◌++◌, ◌∷◌, [], None, Some, List, length, take, ap, ◌∙◌, sym, arith}
use Rattle.std.proofs.lemmas.List.{length-append, length-take}
use Rattle.std.proofs.lemmas.Result.{IfOk-weaker}
use Rattle.sk_msg.specs.declared.content.Content.{Content}
use Rattle.sk_wire.specs.Parts.{Open, Whole, Broken, front, and_before, parts}
use Rattle.sk_wire.specs.Seen.{seen, following}
use Rattle.sk_wire.specs.Fed.{fed_parts}
use Rattle.sk_wire.proofs.FrontLaws.{broken_within}
use Rattle.sk_wire.proofs.DecoderLaws.{piece_open, piece_broken, piece_whole}
use Rattle.sk_wire.proofs.decoder.read_on.Goals as goal
use Rattle.sk_wire.proofs.decoder.read_on.Goals.{In-Broken}

broken_here : (c : In-Broken) → front c.fill.new.buffer.items ≡ Broken c.in-Broken.fault
broken_here c = ap front (sym c.deref.ensures.value) ∙ c.in_ok-front_of.ensures ∙ ap seen c.in-Broken.is

pub overflow_add-result : goal.overflow_add-result
overflow_add-result c =
    let place = broken_within c.fill.new.buffer.items c.in-Broken.fault (broken_here (goal.at.overflow_add-result c).In-Broken) in
    omega (arith, place, ap (λ xs. length xs) c.in_ok-used.ensures.used.1, length-append c.args.buffer.now.items (take c.in_ok-used.used c.args.piece.now), length-take c.in_ok-used.used c.args.piece.now)

pub returns-in-Open-clause-read : goal.returns-in-Open-clause-read
returns-in-Open-clause-read c =
    let here : front c.fill.new.buffer.items ≡ Open = ap front (sym c.deref.ensures.value) ∙ c.in_ok-front_of.ensures ∙ ap seen c.in-Open.is in
    piece_open _ c.args.buffer.now.items c.fill.new.buffer.items c.args.piece.now c.in_ok-used.used c.in_ok-used.ensures.used.1 c.in_ok-used.ensures.all here
    ∙ ap (λ (ms : List Content). record { messages = ms; rest = c.fill.new.buffer.items; fault = None }) (sym c.new.ensures.items)

pub returns-in-Broken-clause-read : goal.returns-in-Broken-clause-read
returns-in-Broken-clause-read c =
    let old = c.args.buffer.now.items in
    let fault = c.in-Broken.fault in
    let place : c.args.fed - length old + fault.at ≡ c.args.fed - c.len.result + fault.at = omega arith in
    rw (c.new-in-Broken.ensures.items, c.clear.ensures.items)
    (piece_broken (c.args.fed - length old) old c.fill.new.buffer.items c.args.piece.now c.in_ok-used.used fault c.in_ok-used.ensures.used.1 (broken_here (goal.at.returns-in-Broken-clause-read c).In-Broken)
    ∙ ap (λ n. record { messages = []; rest = []; fault = Some (record { at = n; what = fault.what }) }) place)

pub returns-in_ok-push-in-Whole-clause-read : goal.returns-in_ok-push-in-Whole-clause-read
returns-in_ok-push-in-Whole-clause-read c =
    let old = c.args.buffer.now.items in
    let m = c.in-Whole.message in
    let p = parts (c.args.fed + c.in_ok-used.used) c.split_at.result.1.now in
    let here : front c.fill.new.buffer.items ≡ Whole m c.in-Whole.field-1.now = ap front (sym c.deref.ensures.value) ∙ c.in_ok-front_of.ensures ∙ ap seen c.in-Whole.is in
    let first : c.push.new.self.items ≡ m ∷ [] = c.in_ok-push-in-Whole.ensures.items ∙ ap (λ ms. ms ++ m ∷ []) c.new-first.ensures.items in
    let whole : parts (c.args.fed - length old) (old ++ c.args.piece.now) ≡ following c.push.new.self.items p =
    piece_whole c.args.fed old c.fill.new.buffer.items c.args.piece.now c.in_ok-used.used m c.in-Whole.field-1.now c.in_ok-used.ensures.used.1 c.in_ok-used.ensures.used.0 c.requires.within here c.in_ok-used.ensures.most
    ∙ ap (λ xs. and_before m (parts (c.args.fed + c.in_ok-used.used) xs)) (sym c.split_at.ensures.back)
    ∙ ap (λ (ms : List Content). following ms p) (sym first) in
    IfOk-weaker c.read_fresh.result
    (λ f. fed_parts f c.read_fresh.new.buffer.items ≡ following c.push.new.self.items p)
    (λ f. parts (c.args.fed - length old) (old ++ c.args.piece.now) ≡ fed_parts f c.read_fresh.new.buffer.items)
    (λ f reads. whole ∙ sym reads)
    c.read_fresh.ensures.read
