use Rattle.causal_history.proofs.BitFacts.{bit-none}
use Rattle.causal_history.proofs.crowd.Crowd.new.Goals as goal

pub returns : goal.returns
returns c = λ p. bit-none p
