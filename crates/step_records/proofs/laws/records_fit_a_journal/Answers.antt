use Rattle.step_records.proofs.RecordLaws.{never-empty, never-long}
use Rattle.step_records.proofs.laws.records_fit_a_journal.Goals as goal

pub returns-clause-not_empty : goal.returns-clause-not_empty
returns-clause-not_empty g c = λ step. never-empty g.K.Kem.SET step.random step.input

pub returns-clause-not_long : goal.returns-clause-not_long
returns-clause-not_long g c = λ step has short. never-long g.K.Kem step.random step.input has.random has.input short
