use Rattle.ntru_model.proofs.Readers.{mixed_read-encoding, small_read-encoding, from_mixed_read, from_small_read}
use Rattle.ntru_model.proofs.reads_encodings.Goals as goal

pub returns-clause-mixed : goal.returns-clause-mixed
returns-clause-mixed c = mixed_read-encoding

pub returns-clause-small : goal.returns-clause-small
returns-clause-small c = small_read-encoding

pub returns-clause-mixed_only : goal.returns-clause-mixed_only
returns-clause-mixed_only c = from_mixed_read

pub returns-clause-small_only : goal.returns-clause-small_only
returns-clause-small_only c = from_small_read
