use Rattle.reference_member.proofs.OneStep.{one-step}
use Rattle.reference_member.proofs.laws.records_are_of_one_step.Goals as goal

pub returns : goal.returns
returns g c = one-step g.K.Kem
