use Rattle.std.proofs.Common.{◌≡◌, ◌*◌, ◌^◌, ℕ, Bool, true, false, cond, Some, None, leb, refl, sym, ap, ◌∙◌, arith}
use Rattle.std.proofs.lemmas.Bool.{le-leb}
use Rattle.std.proofs.lemmas.Bool.Decides.{nat_tests}
use Rattle.sk_base.specs.Ranges.{is_time}
use Rattle.sk_msg.specs.declared.content.Content.TheVariants.{NextStep}
use Rattle.sk_wire.specs.Grammar.{spelling}
use Rattle.sk_pipe.specs.Pipe.{next_step, leave}
use Rattle.sk_pipe.proofs.session.Session.message.Goals as goal

pub returns-then-index-self : goal.returns-then-index-self
unfolding leave
returns-then-index-self c = λ name.
    let past : leb c.args.index c.args.self.now.peer.total ≡ false = (let h = c.if-index-self.true in grind (arith, nat_tests, h)) in
    rw past (ap spelling c.leave.ensures)

pub unwrap-at-requires : goal.unwrap-at-requires
unfolding is_time
unwrap-at-requires c = rw (c.new.ensures, le-leb c.time_of.result (2 ^ 62) c.time_of.ensures.range) refl

pub returns : goal.returns
unfolding next_step is_time
returns c = λ name.
    let within : leb c.args.index c.args.self.now.peer.total ≡ true = le-leb _ _ c.if-index-self.false in
    let fits : leb c.time_of.result (2 ^ 62) ≡ true = le-leb c.time_of.result (2 ^ 62) c.time_of.ensures.range in
    let made : Some c.time_of.result ≡ Some c.unwrap-at.result = sym (c.new.ensures ∙ ap (λ (b : Bool). cond b (Some c.time_of.result) None) fits) ∙ c.unwrap-at.ensures in
    let at : c.unwrap-at.result ≡ c.args.index * c.args.self.now.peer.step = sym (let e : c.time_of.result ≡ c.unwrap-at.result = cc in e) ∙ c.time_of.ensures.value in
    rw within (ap spelling (c.next_step.ensures ∙ ap (λ (n : ℕ). NextStep n c.args.self.now.peer.step) at))
