use Rattle.std.proofs.Common.{ℕ, ◌<◌, slice_index, pos}
use Rattle.ring_poly.specs.Ring.{IsCongruent, coefficient}
use Rattle.ring_solve.proofs.reduce_numbers.Given as goal

abbrev pub invariant-loop-j : goal.invariant-loop-j
invariant-loop-j l = record {
  below : (k : ℕ) → k < l.j → slice_index l.residues k < l.m;
  congruent : (k : ℕ) → k < l.j → IsCongruent (pos l.m) (pos (slice_index l.residues k)) (coefficient l.numbers k);
}
