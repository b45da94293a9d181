use Rattle.group_model.proofs.laws.own_ratchet_is_known.Goals as goal
use Rattle.group_model.proofs.Conduct.{own_ratchet_known, own_ratchet_known_in_worlds}

pub returns-clause-alone : goal.returns-clause-alone
returns-clause-alone c = own_ratchet_known

pub returns-clause-in_worlds : goal.returns-clause-in_worlds
returns-clause-in_worlds c = own_ratchet_known_in_worlds
