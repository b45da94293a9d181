use Rattle.std.proofs.Common.{◌≡◌, ◌*◌, ◌≤◌, take, map, pos}
use Rattle.ring_poly.specs.Ring.{weighted}
use Rattle.ring_solve.specs.Elimination.{numbers_from}
use Rattle.ring_solve.proofs.row_sum.Given as goal

abbrev pub invariant-loop-j : goal.invariant-loop-j
invariant-loop-j l = record {
  bound : l.sum ≤ l.j * 21068100;
  is : pos l.sum ≡ weighted (take l.j (map pos l.x)) (numbers_from l.basis l.at);
}
