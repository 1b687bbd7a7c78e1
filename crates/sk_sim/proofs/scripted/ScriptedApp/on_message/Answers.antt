use Rattle.sk_sim.proofs.Playing.{message_scripted}
use Rattle.sk_sim.proofs.scripted.ScriptedApp.on_message.Goals as goal

pub invariant_of-self-2 : goal.invariant_of-self-2
invariant_of-self-2 c = record {
  scripted = message_scripted c.args.self.now.of.value c.args.self.now.number c.args.self.now.failed _ _ _ _ _ _ _ _ c.args.self.now.scripted c.in_ok-call_message.ensures.made c.in_ok-call_message.ensures.running;
}
