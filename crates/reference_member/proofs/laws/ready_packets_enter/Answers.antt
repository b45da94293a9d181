use Rattle.reference_member.proofs.TakenEnters.{ready-enters}
use Rattle.reference_member.proofs.laws.ready_packets_enter.Goals as goal

pub returns : goal.returns
returns g c = ready-enters g.K.Kem
