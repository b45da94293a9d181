use Rattle.causal_cast.proofs.ReadyFacts.{ready-may_be_taken, taken-lawful}
use Rattle.causal_cast.proofs.laws.what_is_ready_may_be_taken.Goals as goal

pub returns : goal.returns
returns c = record { ready = ready-may_be_taken; lawful = taken-lawful }
