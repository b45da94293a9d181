use Rattle.ring_laws.proofs.Inverses.{kernel_excludes}
use Rattle.ring_laws.proofs.excludes_inverse.Goals as goal

pub returns : goal.returns
returns c = kernel_excludes
