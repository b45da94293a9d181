use Rattle.group_model.proofs.laws.remove_wins.Goals as goal
use Rattle.group_model.proofs.RemoveWins.{remove_wins-IsMember, IsMember-remove_wins, remove_wins-rule, out_stays_out, set_alone}

pub returns-clause-members : goal.returns-clause-members
returns-clause-members c = λ p x. (λ i. remove_wins-IsMember p x i, λ m. IsMember-remove_wins p x m)

pub returns-clause-rule : goal.returns-clause-rule
returns-clause-rule c = remove_wins-rule

pub returns-clause-out_stays_out : goal.returns-clause-out_stays_out
returns-clause-out_stays_out c = λ p q x w n out i. out_stays_out p q x w n out i

pub returns-clause-set_alone : goal.returns-clause-set_alone
returns-clause-set_alone c = λ p q x w v m. set_alone p q x w v m
