use Rattle.group_model.proofs.forms.events_by_entries.Goals as goal
use Rattle.group_model.proofs.Knowing.{events-none, events-joined, events-took, events-made}

pub returns-clause-none : goal.returns-clause-none
returns-clause-none c = events-none

pub returns-clause-joined : goal.returns-clause-joined
returns-clause-joined c = events-joined

pub returns-clause-took : goal.returns-clause-took
returns-clause-took c = events-took

pub returns-clause-made : goal.returns-clause-made
returns-clause-made c = events-made
