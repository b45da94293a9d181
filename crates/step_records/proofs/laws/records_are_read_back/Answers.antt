use Rattle.step_records.proofs.RecordLaws.{read-back}
use Rattle.step_records.proofs.laws.records_are_read_back.Goals as goal

pub returns : goal.returns
returns g c = read-back g.K.Kem
