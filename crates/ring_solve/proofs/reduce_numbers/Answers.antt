use Rattle.std.proofs.Common.{refl, ◌<◌, length, pos, arith, ⊎_elim}
use Rattle.std.proofs.lemmas.Bool.{cases_lt}
use Rattle.std.proofs.lemmas.List.{get_or_past}
use Rattle.ring_poly.specs.Ring.{IsCongruent, coefficient}
use Rattle.ring_poly.proofs.Casts.{widened_16}
use Rattle.ring_poly.proofs.Congruences.{IsCongruent-onto}
use Rattle.ring_poly.proofs.Writes.{written}
use Rattle.ring_solve.proofs.reduce_numbers.Goals as goal

pub loop-j-init : goal.loop-j-init
loop-j-init c = record { below = λ k lt. absurd (omega arith); congruent = λ k lt. absurd (omega arith) }

pub loop-j-preserved : goal.loop-j-preserved
loop-j-preserved c = record {
  below = written (λ k x. x < c.args.m) c.loop-j.residues c.loop-j.j _ c.residue.result 0 (omega arith) refl c.loop-j.invariant.below c.residue.ensures.below;
  congruent = written (λ k x. IsCongruent (pos c.args.m) (pos x) (coefficient c.args.numbers.now k)) c.loop-j.residues c.loop-j.j _ c.residue.result 0 (omega arith) refl c.loop-j.invariant.congruent (IsCongruent-onto _ _ _ _ c.residue.ensures.congruent (widened_16 _ (c.requires.within c.loop-j.j)));
}

pub returns-clause-below : goal.returns-clause-below
returns-clause-below c = λ j. ⊎_elim (λ lt. c.loop-j.invariant.below j (omega arith))
    (λ ge. let e = get_or_past c.loop-j.residues j 0 ge in omega arith) (cases_lt j (length c.loop-j.residues))

pub returns-clause-congruent : goal.returns-clause-congruent
returns-clause-congruent c = λ j lt. c.loop-j.invariant.congruent j (omega arith)
