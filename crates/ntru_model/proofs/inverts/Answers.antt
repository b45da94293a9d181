use Rattle.ntru_model.proofs.Inverses.{inverse_found, inverse_absent, from_inverse}
use Rattle.ntru_model.proofs.inverts.Goals as goal

pub returns-clause-found : goal.returns-clause-found
returns-clause-found c = inverse_found

pub returns-clause-none : goal.returns-clause-none
returns-clause-none c = inverse_absent

pub returns-clause-only : goal.returns-clause-only
returns-clause-only c = from_inverse
