use Rattle.group_messages.proofs.HeaderFacts.{ascending-distinct, named-few}
use Rattle.group_messages.proofs.laws.named_ids_are_few.Goals as goal

pub returns-clause-ascending : goal.returns-clause-ascending
returns-clause-ascending c = λ h s. (named-few h.kind h.target s.target).ascending

pub returns-clause-distinct : goal.returns-clause-distinct
returns-clause-distinct c = λ h s. ascending-distinct _ (named-few h.kind h.target s.target).ascending

pub returns-clause-few : goal.returns-clause-few
returns-clause-few c = λ h s. (named-few h.kind h.target s.target).few
