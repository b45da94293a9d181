use Rattle.group_model.proofs.forms.heads_by_predecessors.Goals as goal
use Rattle.group_model.proofs.Ascending.{heads-same, addressees-same}
use Rattle.group_model.proofs.PastsInside.{head-by_predecessors}

pub returns-clause-heads : goal.returns-clause-heads
returns-clause-heads c = head-by_predecessors

pub returns-clause-one_list : goal.returns-clause-one_list
returns-clause-one_list c = heads-same

pub returns-clause-one_list_of_addressees : goal.returns-clause-one_list_of_addressees
returns-clause-one_list_of_addressees c = addressees-same
