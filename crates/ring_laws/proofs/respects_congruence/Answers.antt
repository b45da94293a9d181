use Rattle.ring_laws.proofs.Turning.{product_respects}
use Rattle.ring_laws.proofs.respects_congruence.Goals as goal

pub returns : goal.returns
returns c = product_respects
