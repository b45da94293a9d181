use Rattle.std.proofs.Common.{◌≡◌, take}
use Rattle.ring_poly.specs.Ring.{weighted}
use Rattle.ring_poly.proofs.Weighted.{back}
use Rattle.ring_poly.proofs.plain.convolved.Given as goal

-- the sum so far is that of the places so far
abbrev pub invariant-loop-i : goal.invariant-loop-i
invariant-loop-i l = l.sum ≡ weighted (take l.i l.a) (back l.b l.k)
