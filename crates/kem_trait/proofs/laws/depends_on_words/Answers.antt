use Rattle.std.proofs.Common.{ap}
use Rattle.kem_trait.proofs.StreamFacts.{same_stream}
use Rattle.kem_trait.proofs.laws.depends_on_words.Goals as goal

pub returns-clause-streams : goal.returns-clause-streams
returns-clause-streams g c = λ u v same. same_stream u v same

pub returns-clause-pairs : goal.returns-clause-pairs
returns-clause-pairs g c = λ u v same. ap g.K.Kem.made (same_stream u v same)

pub returns-clause-ciphers : goal.returns-clause-ciphers
returns-clause-ciphers g c = λ public u v same. ap (g.K.Kem.encapsulated public) (same_stream u v same)
