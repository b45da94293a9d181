use Rattle.std.proofs.Common.{◌≡◌, ℕ, ◌<◌, ◌-◌, ◌+◌, to_z, w32}
use Rattle.ring_poly.specs.Ring.{coefficient, weighted, IsCongruent, IsCentred}
use Rattle.ring_poly.proofs.further_coefficients.Given as goal

-- the coefficients so far
abbrev pub invariant-loop-k : goal.invariant-loop-k
invariant-loop-k g l = record {
  congruent : (k : ℕ) → k < l.k → 0 < k → IsCongruent (to_z w32 g.row.Q) (coefficient l.out k) (weighted l.b (λ j. coefficient l.numbers (g.row.P - 1 - k + j)));
  centred : (k : ℕ) → k < l.k → 0 < k → IsCentred (to_z w32 g.row.Q) (coefficient l.out k);
  first : coefficient l.out 0 ≡ coefficient l.initial.out 0;
}
