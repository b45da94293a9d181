use Rattle.ring_laws.proofs.Turning.{product_assoc}
use Rattle.ring_laws.proofs.associates.Goals as goal

pub returns : goal.returns
returns c = product_assoc
