use Rattle.std.proofs.Common.{slice_index, arith, refl}
use Rattle.std.proofs.lemmas.Nat.{mod_below}
use Rattle.ring_poly.proofs.Congruences.{IsCongruent-then}
use Rattle.ring_solve.proofs.Residues.{rest_congruent}
use Rattle.ring_solve.proofs.Eliminates.{congruent_same}
use Rattle.ring_solve.proofs.settle.Goals as goal

pub returns-then-steps-lt-STEPS-clause-same : goal.returns-then-steps-lt-STEPS-clause-same
returns-then-steps-lt-STEPS-clause-same c = λ j. congruent_same _ _ _ refl

pub returns-clause-row : goal.returns-clause-row
returns-clause-row c = record {
  few = omega arith;
  sums = λ j.
      let e = c.reduce_row.ensures j in
      let b = mod_below (slice_index c.args.row.now j) c.args.m c.requires.some in
      omega arith;
}

pub returns-clause-same : goal.returns-clause-same
returns-clause-same c = λ j. IsCongruent-then _ _ _ _ (congruent_same c.args.m _ _ (c.reduce_row.ensures j)) (rest_congruent c.args.m (slice_index c.args.row.now j))
