use Rattle.std.proofs.Common.{arith}
use Rattle.causal_history.proofs.BitFacts.{bit-without}
use Rattle.causal_history.proofs.crowd.Crowd.without.Goals as goal

pub returns : goal.returns
returns c = λ p. bit-without c.args.self.0 c.args.other.0 p (omega arith) (omega arith)
