use Rattle.std.proofs.Common.{eq-eqb}
use Rattle.std.proofs.lemmas.Bool.{eqb-true}
use Rattle.causal_history.proofs.BitFacts.{empty-none, none-empty}
use Rattle.causal_history.proofs.crowd.Crowd.is_empty.Goals as goal

pub returns : goal.returns
returns c = (λ t. empty-none c.args.self.0 (eqb-true c.args.self.0 0 t), λ f. eq-eqb c.args.self.0 0 (none-empty c.args.self.0 f))
