use Rattle.group_model.proofs.forms.past_inside_a_past.Goals as goal
use Rattle.group_model.proofs.PastsInside.{past-of_inner, view-of_inner, past-by_predecessor}

pub returns-clause-past : goal.returns-clause-past
returns-clause-past c = past-of_inner

pub returns-clause-view : goal.returns-clause-view
returns-clause-view c = view-of_inner

pub returns-clause-by_a_predecessor : goal.returns-clause-by_a_predecessor
returns-clause-by_a_predecessor c = past-by_predecessor
