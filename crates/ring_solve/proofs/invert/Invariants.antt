use Rattle.std.proofs.Common.{pos, ◌*◌, ◌<◌}
use Rattle.ring_poly.specs.Ring.{IsCongruent}
use Rattle.ring_solve.proofs.invert.Given as goal

-- the factor times the number is what is left
abbrev pub invariant-loop-rest : goal.invariant-loop-rest
invariant-loop-rest l = record {
  some : 0 < l.rest;
  below : l.rest < l.m;
  factor_below : l.factor < l.m;
  is : IsCongruent (pos l.m) (pos (l.factor * l.number)) (pos l.rest);
}

abbrev pub decreases-loop-rest : goal.decreases-loop-rest
decreases-loop-rest l = l.rest
