use Rattle.ring_laws.proofs.Inverses.{answer_shows}
use Rattle.ring_laws.proofs.decides_inverse.Goals as goal

pub returns : goal.returns
returns c = answer_shows
