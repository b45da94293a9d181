use Rattle.std.proofs.Common.{arith, ◌≢◌, ◌∙◌, pos, ◌-ℤ◌, refl, get_or-set_other}
use Rattle.std.proofs.lemmas.Int.{ints}
use Rattle.ring_poly.specs.Ring.{coefficient, IsRounded}
use Rattle.ring_poly.proofs.Writes.{written}
use Rattle.ring_poly.proofs.Centred.{within_from_centred, rounded_without, all_centred_from_rounded}
use Rattle.ring_poly.proofs.Congruences.{IsCongruent-onto}
use Rattle.ring_poly.proofs.round_to_three.Goals as goal

pub overflow_sub-a : goal.overflow_sub-a
overflow_sub-a g c =
    let w = within_from_centred _ c.args.a.now c.requires.modulus c.requires.centred c.loop-i.i in
    let lo = w.0 in let hi = w.1 in
    let same = c.loop-i.invariant.same c.loop-i.i (omega arith) in
    let rest = c.center-rest.ensures.centred in
    omega (arith, ints)

pub loop-i-init : goal.loop-i-init
loop-i-init g c = record { rounded = λ k lt. absurd (omega arith); same = λ k le. refl }

pub loop-i-preserved : goal.loop-i-preserved
loop-i-preserved g c =
    let i = c.loop-i.i in
    let a = c.args.a.now in
    let old = coefficient a i in
    let rest = c.center-rest.result in
    let w = within_from_centred _ a c.requires.modulus c.requires.centred i in
    let lo = w.0 in let hi = w.1 in
    let same = c.loop-i.invariant.same i (omega arith) in
    let size = c.center-rest.ensures.centred in
    record {
      rounded = written (λ k x. IsRounded (coefficient a k) x) c.loop-i.a i _ (old -ℤ rest) (pos 0) (omega arith) (omega (arith, ints)) c.loop-i.invariant.rounded
          (rounded_without old (old -ℤ rest) rest (IsCongruent-onto _ _ _ _ c.center-rest.ensures.congruent (omega (arith, ints))) size refl);
      same = λ k le. let ne : k ≢ i = omega arith in get_or-set_other c.loop-i.a i k _ (pos 0) ne ∙ c.loop-i.invariant.same k (omega arith);
    }

pub returns-clause-rounded : goal.returns-clause-rounded
returns-clause-rounded g c = record { len = omega arith; each = λ k lt. c.loop-i.invariant.rounded k (omega arith) }

pub returns-clause-centred : goal.returns-clause-centred
returns-clause-centred g c = λ h e. all_centred_from_rounded _ c.args.a.now c.loop-i.a h e c.requires.centred (record { len = omega arith; each = λ k lt. c.loop-i.invariant.rounded k (omega arith) })
