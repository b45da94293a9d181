use Rattle.causal_history.proofs.BitFacts.{bit-put_same, bit-put_other}
use Rattle.causal_history.proofs.crowd.Crowd.with.Goals as goal

pub returns-clause-set : goal.returns-clause-set
returns-clause-set c = bit-put_same _ _ c.requires

pub returns-clause-others : goal.returns-clause-others
returns-clause-others c = λ q d. bit-put_other _ _ q c.requires d
