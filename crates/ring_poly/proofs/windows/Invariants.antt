use Rattle.std.proofs.Common.{◌≡◌, ℕ, ◌<◌, ◌-◌}
use Rattle.ring_poly.specs.Ring.{coefficient, IsWithin}
use Rattle.ring_poly.proofs.Weighted.{entry}
use Rattle.ring_poly.proofs.windows.Given as goal

-- the numbers so far
abbrev pub invariant-loop-place : goal.invariant-loop-place
invariant-loop-place g l = record {
  are : (k : ℕ) → k < l.place → coefficient l.numbers k ≡ entry g.row.P l.a (g.row.P - 1) k;
  within : (k : ℕ) → k < l.place → IsWithin 4590 (coefficient l.numbers k);
}
