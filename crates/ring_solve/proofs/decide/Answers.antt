use Rattle.std.proofs.Common.{◌≡◌, pos, arith, ap, to_z, of_z, w32}
use Rattle.std.specs.Int.{w16}
use Rattle.std.proofs.lemmas.Int.{ints}
use Rattle.std.proofs.lemmas.List.Elements.{All-get_or}
use Rattle.ring_poly.specs.Ring.{coefficient, IsCentred}
use Rattle.ring_poly.proofs.Centred.{within_from_centred}
use Rattle.ring_poly.proofs.Congruences.{IsCongruent-onto}
use Rattle.ring_solve.proofs.Deciding.{decided_kernel, decided_inverse, some_rest}
use Rattle.ring_solve.proofs.decide.Goals as goal

pub returns-then-check-eq0-clause-kernel : goal.returns-then-check-eq0-clause-kernel
returns-then-check-eq0-clause-kernel g c = λ _.
    let least = c.requires.modulus.least in
    let same = c.requires.same in
    let w = within_from_centred _ c.mul_q.new.out c.requires.modulus c.mul_q.ensures.centred 0 in
    let lo = w.0 in let hi = w.1 in
    let zero_check = c.if-check-eq0.true in
    decided_kernel c.args.m _ c.requires.same g.row.P c.args.a.now c.center_each.new.out c.mul_q.new.out c.args.x.now (omega (arith, ints)) (omega arith) c.requires.solved.len (omega arith)
    c.center_each.ensures.congruent c.requires.solved.one c.requires.solved.rows c.mul_q.ensures.congruent (omega (arith, ints))

pub residue-requires-clause-within : goal.residue-requires-clause-within
residue-requires-clause-within g c =
    let w = within_from_centred _ c.mul_q.new.out c.requires.modulus c.mul_q.ensures.centred 0 in
    let lo = w.0 in let hi = w.1 in
    (omega (arith, ints), omega (arith, ints))

pub invert-scale-requires-clause-low : goal.invert-scale-requires-clause-low
invert-scale-requires-clause-low g c =
    let y = c.mul_q.new.out in
    let w = within_from_centred _ y c.requires.modulus c.mul_q.ensures.centred 0 in
    let lo = w.0 in let hi = w.1 in
    let cast : to_z w16 (of_z w16 (coefficient y 0)) ≡ coefficient y 0 = omega (arith, ints) in
    some_rest c.args.m (to_z w32 g.row.M) (coefficient y 0) c.residue.result c.requires.same
    (All-get_or (IsCentred (to_z w32 g.row.M)) y 0 (pos 0) (omega arith) c.mul_q.ensures.centred)
    (λ e. c.if-check-eq0.false (ap (of_z w16) e)) (IsCongruent-onto _ _ _ _ c.residue.ensures.congruent cast)

pub returns-clause-inverse : goal.returns-clause-inverse
returns-clause-inverse g c = λ _.
    let w = within_from_centred _ c.mul_q.new.out c.requires.modulus c.mul_q.ensures.centred 0 in
    let lo = w.0 in let hi = w.1 in
    let cast : to_z w16 (of_z w16 (coefficient c.mul_q.new.out 0)) ≡ coefficient c.mul_q.new.out 0 = omega (arith, ints) in
    decided_inverse c.args.m _ c.requires.same g.row.P c.args.a.now c.center_each.new.out c.mul_q.new.out c.center_each-2.new.out c.args.x.now c.invert-scale.result c.residue.result (omega arith) c.requires.solved.len (omega arith) (omega arith)
    c.center_each.ensures.congruent c.mul_q.ensures.congruent (IsCongruent-onto _ _ _ _ c.residue.ensures.congruent cast) c.invert-scale.ensures.inverse c.center_each-2.ensures.congruent c.requires.solved.rows
