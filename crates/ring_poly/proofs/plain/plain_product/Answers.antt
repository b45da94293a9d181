use Rattle.std.proofs.Common.{arith, ◌≡◌, ℕ, ℤ, to_z, of_z, w64, SFits, rules, pos}
use Rattle.std.proofs.lemmas.Int.{to_z-of_z}
use Rattle.ring_poly.specs.Ring.{convolution, reduced}
use Rattle.ring_poly.proofs.Writes.{written}
use Rattle.ring_poly.proofs.Terms.{product_by}
use Rattle.ring_poly.proofs.plain.plain_product.Goals as goal

pub loop-k-preserved : goal.loop-k-preserved
loop-k-preserved g c =
    let cast : to_z w64 (of_z w64 c.reduced_coefficient.result) ≡ c.reduced_coefficient.result = (let f : SFits w64 c.reduced_coefficient.result = search rules in to_z-of_z w64 c.reduced_coefficient.result f) in
    let P : ℕ → ℤ → Type 0 = λ k x. x ≡ reduced g.row.P (convolution c.args.a.now c.args.b.now) k in
    written P c.loop-k.out c.loop-k.k _ _ (pos 0) (omega arith) cast c.loop-k.invariant c.reduced_coefficient.ensures

pub returns : goal.returns
returns g c = product_by g.row.P c.args.a.now c.args.b.now c.loop-k.out (omega arith) (λ k lt. c.loop-k.invariant k (omega arith))
