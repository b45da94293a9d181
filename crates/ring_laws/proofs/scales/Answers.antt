use Rattle.ring_laws.proofs.Turning.{product-multiple_of}
use Rattle.ring_laws.proofs.scales.Goals as goal

pub returns : goal.returns
returns c = product-multiple_of
