use Rattle.group_model.proofs.forms.past_by_marks.Goals as goal
use Rattle.group_model.specs.Messages.{past}
use Rattle.group_model.proofs.MarksMade.{marks_of, past-marks}
use Rattle.group_model.proofs.Numbers.{past-marked, marks-one, number-of, number-same, number-one}

pub returns-clause-there_are : goal.returns-clause-there_are
returns-clause-there_are c = λ h ids g. (marks_of h (past h ids), past-marks h g ids)

pub returns-clause-past : goal.returns-clause-past
returns-clause-past c = λ h ids marks g k. past-marked h ids marks g k

pub returns-clause-one_set : goal.returns-clause-one_set
returns-clause-one_set c = λ h ids a b i k l. marks-one h ids a b k l i

pub returns-clause-numbered : goal.returns-clause-numbered
returns-clause-numbered c = λ h m i. number-of h i

pub returns-clause-one_number : goal.returns-clause-one_number
returns-clause-one_number c = λ h m i j g r s. number-same h g i j m r s

pub returns-clause-one_message : goal.returns-clause-one_message
returns-clause-one_message c = λ h m n i r s. number-one h i m n r s
