use Rattle.std.proofs.Common.{◌≡◌, ℕ, ◌<◌}
use Rattle.ring_poly.specs.Ring.{coefficient, convolution, reduced}
use Rattle.ring_poly.proofs.plain.plain_product.Given as goal

-- the coefficients so far
abbrev pub invariant-loop-k : goal.invariant-loop-k
invariant-loop-k g l = (k : ℕ) → k < l.k → coefficient l.out k ≡ reduced g.row.P (convolution l.a l.b) k
