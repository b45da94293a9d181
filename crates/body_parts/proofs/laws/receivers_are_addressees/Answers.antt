use Rattle.body_parts.proofs.Gathered.{addressed}
use Rattle.body_parts.proofs.laws.receivers_are_addressees.Goals as goal

pub returns : goal.returns
returns c = addressed
