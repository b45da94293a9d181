use Rattle.std.proofs.Common.{◌≡◌, ◌≤◌, ◌-◌, length, take}
use Rattle.ring_poly.specs.Ring.{coefficient, weighted}
use Rattle.ring_poly.proofs.dot.Given as goal

-- the sum so far is that of the blocks so far
abbrev pub invariant-loop-from : goal.invariant-loop-from
invariant-loop-from l = (l.from ≤ length l.a) × (l.sum ≡ weighted (take l.from l.a) (coefficient l.b))

abbrev pub decreases-loop-from : goal.decreases-loop-from
decreases-loop-from l = length l.a - l.from
