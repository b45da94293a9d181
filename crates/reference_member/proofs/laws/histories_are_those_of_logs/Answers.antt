use Rattle.reference_member.proofs.Histories.{run-history}
use Rattle.reference_member.proofs.laws.histories_are_those_of_logs.Goals as goal

pub returns : goal.returns
returns g c = run-history g.K.Kem
