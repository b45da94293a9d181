use Rattle.group_model.proofs.laws.made_messages_are_valid.Goals as goal
use Rattle.group_model.proofs.Conduct.{made_is_valid, made_is_valid_in_worlds}

pub returns-clause-alone : goal.returns-clause-alone
returns-clause-alone c = made_is_valid

pub returns-clause-in_worlds : goal.returns-clause-in_worlds
returns-clause-in_worlds c = made_is_valid_in_worlds
