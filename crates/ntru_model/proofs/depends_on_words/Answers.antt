use Rattle.std.proofs.Common.{ap}
use Rattle.ntru_model.specs.Pairs.{pair_drawn}
use Rattle.ntru_model.specs.Encapsulation.{encapsulated}
use Rattle.kem_trait.proofs.StreamFacts.{same_stream}
use Rattle.ntru_model.proofs.depends_on_words.Goals as goal

pub returns-clause-pairs : goal.returns-clause-pairs
returns-clause-pairs c = λ s u v same. ap (pair_drawn s) (same_stream u v same)

pub returns-clause-keys : goal.returns-clause-keys
returns-clause-keys c = λ s public u v same. ap (encapsulated s public) (same_stream u v same)
