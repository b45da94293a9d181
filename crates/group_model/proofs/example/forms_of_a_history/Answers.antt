use Rattle.group_model.proofs.FormsApplied.{forms_of_ada, forms_of_the_creation, places_of_ada}
use Rattle.group_model.proofs.example.forms_of_a_history.Goals as goal

pub returns-clause-history : goal.returns-clause-history
returns-clause-history c = forms_of_ada

pub returns-clause-creation : goal.returns-clause-creation
returns-clause-creation c = forms_of_the_creation

pub returns-clause-places : goal.returns-clause-places
returns-clause-places c = places_of_ada
