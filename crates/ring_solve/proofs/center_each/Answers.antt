use Rattle.std.proofs.Common.{◌≡◌, ◌*◌, slice_index, pos, arith, to_z, of_z, w32}
use Rattle.std.specs.Int.{w16}
use Rattle.std.proofs.lemmas.Int.{ints}
use Rattle.std.proofs.lemmas.List.Elements.{All-from_get_or}
use Rattle.ring_poly.specs.Ring.{IsCongruent, IsCentred}
use Rattle.ring_poly.proofs.Writes.{written}
use Rattle.ring_poly.proofs.Congruences.{IsCongruent-onto}
use Rattle.ring_solve.proofs.Residues.{product_small}
use Rattle.ring_solve.proofs.center_each.Goals as goal

pub loop-j-init : goal.loop-j-init
loop-j-init g c = record { congruent = λ k lt. absurd (omega arith); centred = λ k lt. absurd (omega arith) }

pub loop-j-preserved : goal.loop-j-preserved
loop-j-preserved g c =
    let size = c.center.ensures.centred in
    let t = product_small c.args.scale (slice_index c.args.x.now c.loop-j.j) c.requires.scale_small (c.requires.below c.loop-j.j) in
    let most = c.requires.modulus.most in
    let cast : to_z w16 (of_z w16 c.center.result) ≡ c.center.result = omega (arith, ints) in
    record {
      congruent = written (λ k x. IsCongruent (to_z w32 g.row.M) x (pos (c.args.scale * slice_index c.args.x.now k))) c.loop-j.out c.loop-j.j _ c.center.result (pos 0) (omega arith) cast c.loop-j.invariant.congruent
          (IsCongruent-onto _ _ _ _ c.center.ensures.congruent (omega (arith, ints)));
      centred = written (λ k x. IsCentred (to_z w32 g.row.M) x) c.loop-j.out c.loop-j.j _ c.center.result (pos 0) (omega arith) cast c.loop-j.invariant.centred size;
    }

pub overflow_mul-scale : goal.overflow_mul-scale
overflow_mul-scale g c = omega (arith, product_small c.args.scale (slice_index c.args.x.now c.loop-j.j) c.requires.scale_small (c.requires.below c.loop-j.j))

pub overflow_cast-scale : goal.overflow_cast-scale
overflow_cast-scale g c = omega (arith, product_small c.args.scale (slice_index c.args.x.now c.loop-j.j) c.requires.scale_small (c.requires.below c.loop-j.j))

pub returns-clause-congruent : goal.returns-clause-congruent
returns-clause-congruent g c = λ j lt. c.loop-j.invariant.congruent j (omega arith)

pub returns-clause-centred : goal.returns-clause-centred
returns-clause-centred g c = All-from_get_or (IsCentred (to_z w32 g.row.M)) c.loop-j.out (pos 0) (λ k lt. c.loop-j.invariant.centred k (omega arith))
