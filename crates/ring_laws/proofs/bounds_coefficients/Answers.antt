use Rattle.ring_laws.proofs.Small.{product_low}
use Rattle.ring_laws.proofs.bounds_coefficients.Goals as goal

pub returns : goal.returns
returns c = product_low
