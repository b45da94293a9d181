use Rattle.std.proofs.Common.{◌≡◌, take}
use Rattle.ring_poly.specs.Ring.{coefficient, weighted}
use Rattle.ring_poly.proofs.short_dot.Given as goal

-- the sum so far is that of the places so far
abbrev pub invariant-loop-i : goal.invariant-loop-i
invariant-loop-i l = l.sum ≡ weighted (take l.i l.a) (coefficient l.b)
