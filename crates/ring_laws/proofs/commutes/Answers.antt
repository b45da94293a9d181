use Rattle.ring_poly.proofs.Commutes.{product_comm}
use Rattle.ring_laws.proofs.commutes.Goals as goal

pub returns : goal.returns
returns c = product_comm
