use Rattle.group_model.proofs.laws.equal_secrets.Goals as goal
use Rattle.group_model.proofs.Theorem.{agreement, agreement_between}

pub returns-clause-terms : goal.returns-clause-terms
returns-clause-terms c = agreement

pub returns-clause-between_members : goal.returns-clause-between_members
returns-clause-between_members c = λ G w x y m l e f. agreement_between G w x y m l e f
