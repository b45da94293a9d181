use Rattle.two_party.proofs.Exchanges.{first-opens, second-opens}
use Rattle.two_party.proofs.laws.parts_open.Goals as goal

pub returns-clause-to_second : goal.returns-clause-to_second
returns-clause-to_second g c = λ a b ka kb part to_second to_first e. second-opens g.K.Kem part e

pub returns-clause-to_first : goal.returns-clause-to_first
returns-clause-to_first g c = λ a b ka kb part to_second to_first e. first-opens g.K.Kem part e
