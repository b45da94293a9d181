use Rattle.ring_laws.proofs.Polynomials.{sum_with_multiple}
use Rattle.ring_laws.proofs.drops_multiples.Goals as goal

pub returns : goal.returns
returns c = sum_with_multiple
