use Rattle.std.proofs.Common.{refl, sym}
use Rattle.sk_pipe.proofs.CountLaws.{at_least_one}
use Rattle.sk_pipe.proofs.HearingLaws.{begun-nothing}
use Rattle.sk_pipe.proofs.peer.Peer.new.Goals as goal

pub returns-clause-hears : goal.returns-clause-hears
returns-clause-hears c = record {
  ending_is = refl;
  begun_is = sym (begun-nothing c.args.step c.args.duration (at_least_one c.args.step c.requires.step));
  sync_is = λ _. refl;
}
