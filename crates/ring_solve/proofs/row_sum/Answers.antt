use Rattle.std.proofs.Common.{◌+◌, map, pos, arith, ap, ◌∙◌}
use Rattle.std.proofs.lemmas.List.{length-map, take_all}
use Rattle.ring_poly.specs.Ring.{weighted}
use Rattle.ring_solve.specs.Elimination.{numbers_from}
use Rattle.ring_solve.proofs.Residues.{product_small}
use Rattle.ring_solve.proofs.Solving.{sum_step}
use Rattle.ring_solve.proofs.row_sum.Goals as goal

pub overflow_mul-sum : goal.overflow_mul-sum
overflow_mul-sum c = omega (arith, product_small _ _ (c.requires.basis_below (c.args.at + c.loop-j.j)) (c.requires.below c.loop-j.j))

pub overflow_add-sum : goal.overflow_add-sum
overflow_add-sum c =
    let t = product_small _ _ (c.requires.basis_below (c.args.at + c.loop-j.j)) (c.requires.below c.loop-j.j) in
    let b = c.loop-j.invariant.bound in
    omega arith

pub loop-j-preserved : goal.loop-j-preserved
loop-j-preserved c =
    let t = product_small _ _ (c.requires.basis_below (c.args.at + c.loop-j.j)) (c.requires.below c.loop-j.j) in
    record {
      bound = let b = c.loop-j.invariant.bound in omega arith;
      is = sum_step c.args.x.now c.args.basis.now c.args.at c.loop-j.j c.loop-j.sum (omega arith) c.loop-j.invariant.is;
    }

pub returns : goal.returns
returns c = c.loop-j.invariant.is ∙ ap (λ xs. weighted xs (numbers_from c.args.basis.now c.args.at)) (take_all c.loop-j.j (map pos c.args.x.now) (let e = length-map c.args.x.now pos in omega arith))
