use Rattle.std.proofs.Common.{arith}
use Rattle.std.proofs.lemmas.Int.{ints}
use Rattle.std.proofs.lemmas.Nat.{mod_below}
use Rattle.ring_poly.proofs.Congruences.{IsCongruent-same}
use Rattle.ring_solve.proofs.Residues.{inversion_step}
use Rattle.ring_solve.proofs.invert.Goals as goal

pub loop-rest-init : goal.loop-rest-init
loop-rest-init c = record {
  some = c.requires.low;
  below = c.requires.high;
  factor_below = omega arith;
  is = IsCongruent-same _ _ _ (omega (arith, ints));
}

pub loop-rest-preserved : goal.loop-rest-preserved
loop-rest-preserved c =
    let i = c.loop-rest.invariant in
    record {
      some = c.requires.modulus.prime c.loop-rest.rest (omega arith) i.below;
      below = omega (arith, mod_below c.args.m c.loop-rest.rest i.some);
      factor_below = mod_below _ c.args.m (omega arith);
      is = inversion_step c.args.m c.loop-rest.factor c.args.number c.loop-rest.rest i.some i.below i.is;
    }
