use Rattle.causal_history.proofs.BitFacts.{bit-union}
use Rattle.causal_history.proofs.crowd.Crowd.union.Goals as goal

pub returns : goal.returns
returns c = λ p. bit-union c.args.self.0 c.args.other.0 p
