use Rattle.group_parts.proofs.Spelled.{part_read-part_bytes, one_spelling, reads}
use Rattle.group_parts.proofs.laws.parts_are_spelled.Goals as goal

pub returns-clause-back : goal.returns-clause-back
returns-clause-back g c = λ part h. part_read-part_bytes g.K.Kem part h

pub returns-clause-one : goal.returns-clause-one
returns-clause-one g c = λ bytes part h e. one_spelling g.K.Kem bytes part h e

pub returns-clause-reads : goal.returns-clause-reads
returns-clause-reads g c = λ bytes n low. reads g.K.Kem bytes n low
