use Rattle.causal_history.proofs.BitFacts.{mark-zeros}
use Rattle.causal_history.proofs.marks.Marks.clear.Goals as goal

pub returns : goal.returns
returns c = λ i. mark-zeros 64 i
