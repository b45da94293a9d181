use Rattle.group_model.proofs.LogsApplied.{logs_of_three_members, logs_of_an_outsider}
use Rattle.group_model.proofs.example.laws_of_the_logs.Goals as goal

pub returns-clause-of_three_members : goal.returns-clause-of_three_members
returns-clause-of_three_members c = logs_of_three_members

pub returns-clause-with_an_outsider : goal.returns-clause-with_an_outsider
returns-clause-with_an_outsider c = logs_of_an_outsider
