use Rattle.std.proofs.Common.{ℕ, ◌<◌, ◌*◌, slice_index, pos, to_z, w32}
use Rattle.ring_poly.specs.Ring.{IsCongruent, IsCentred, coefficient}
use Rattle.ring_solve.proofs.center_each.Given as goal

abbrev pub invariant-loop-j : goal.invariant-loop-j
invariant-loop-j g l = record {
  congruent : (k : ℕ) → k < l.j → IsCongruent (to_z w32 g.row.M) (coefficient l.out k) (pos (l.scale * slice_index l.x k));
  centred : (k : ℕ) → k < l.j → IsCentred (to_z w32 g.row.M) (coefficient l.out k);
}
