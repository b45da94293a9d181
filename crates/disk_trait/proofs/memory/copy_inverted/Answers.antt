use Rattle.std.proofs.Common.{arith}
use Rattle.disk_trait.proofs.Inverts.{inverts_one}
use Rattle.disk_trait.proofs.memory.copy_inverted.Goals as goal

pub loop-byte-preserved : goal.loop-byte-preserved
loop-byte-preserved c = rw c.loop-byte.invariant (inverts_one c.copy_from_slice.new.self c.loop-byte.byte-index (omega arith))
