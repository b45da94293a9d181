use Rattle.ring_laws.proofs.Turning.{product-sum_of}
use Rattle.ring_laws.proofs.distributes.Goals as goal

pub returns : goal.returns
returns c = product-sum_of
