use Rattle.ntru_model.proofs.Bytes.{public_bytes}
use Rattle.ntru_model.proofs.Laws.{known_public, known_own, known_polynomial}
use Rattle.ntru_model.proofs.reads_public_keys.Goals as goal

pub returns-clause-every : goal.returns-clause-every
returns-clause-every c = known_public

pub returns-clause-own : goal.returns-clause-own
returns-clause-own c = known_own

pub returns-clause-only : goal.returns-clause-only
returns-clause-only c = known_polynomial

pub returns-clause-bytes : goal.returns-clause-bytes
returns-clause-bytes c = public_bytes
