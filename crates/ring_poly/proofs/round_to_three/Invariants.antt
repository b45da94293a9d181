use Rattle.std.proofs.Common.{◌≡◌, ℕ, ◌<◌, ◌≤◌}
use Rattle.ring_poly.specs.Ring.{coefficient, IsRounded}
use Rattle.ring_poly.proofs.round_to_three.Given as goal

-- rounded so far, and from there on as before
abbrev pub invariant-loop-i : goal.invariant-loop-i
invariant-loop-i g l = record {
  rounded : (k : ℕ) → k < l.i → IsRounded (coefficient l.initial.a k) (coefficient l.a k);
  same : (k : ℕ) → l.i ≤ k → coefficient l.a k ≡ coefficient l.initial.a k;
}
