use Rattle.std.proofs.Common.{◌≡◌, ℕ, ◌<◌, length, to_z, w32}
use Rattle.ring_poly.specs.Ring.{coefficient, IsCentred}
use Rattle.primitive_bench.proofs.work.scattered.Given as goal

abbrev pub invariant-loop-i : goal.invariant-loop-i
invariant-loop-i g l = (length l.coefficients ≡ 761) × ((k : ℕ) → k < l.i → IsCentred (to_z w32 g.row.M) (coefficient l.coefficients k))
