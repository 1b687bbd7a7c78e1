use Rattle.std.proofs.Common.{Bool, subst, sym}
use Rattle.sk_sim.specs.Playing.{IsScripted}
use Rattle.sk_sim.proofs.Playing.{step_scripted}
use Rattle.sk_sim.proofs.scripted.ScriptedApp.on_step.Goals as goal

pub invariant_of-self : goal.invariant_of-self
invariant_of-self c =
    let self = c.args.self.now in let call = c.call_step-called in let e = call.ensures in
    let before = subst (λ (b : Bool). ∥ IsScripted self.of.value self.number b self.running self.made.items ∥₁) c.if-self.false self.scripted in
    let behind = step_scripted self.of.value self.number self.running call.new.running self.made.items call.new.made.items before c.args.number c.args.at call.new.out call.result e.made e.asked e.running e.err in
    record { scripted = subst (λ (b : Bool). ∥ IsScripted self.of.value self.number b call.new.running call.new.made.items ∥₁) (sym c.is_err-self.ensures.value) behind }
