use Rattle.sk_wire.proofs.FrontLaws.{front_faults, faults_front}
use Rattle.sk_wire.proofs.laws.one_frame_fault.Goals as goal

pub returns : goal.returns
returns c = λ bytes fault fits. (front_faults bytes fault fits, faults_front bytes fault)
