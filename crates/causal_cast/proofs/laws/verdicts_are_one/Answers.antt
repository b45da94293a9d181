use Rattle.causal_cast.proofs.ReadyFacts.{one-verdict, of_judge}
use Rattle.causal_cast.proofs.laws.verdicts_are_one.Goals as goal

pub returns : goal.returns
returns c = record { one = one-verdict; of_judge = of_judge }
