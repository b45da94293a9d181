use Rattle.std.proofs.Common.{arith, ◌≡◌, ◌∙◌, pos, to_z, of_z, w32}
use Rattle.std.specs.Int.{w16}
use Rattle.std.proofs.lemmas.Int.{ints}
use Rattle.std.proofs.lemmas.List.{length-set}
use Rattle.std.proofs.lemmas.List.Elements.{All-from_get_or}
use Rattle.ring_poly.specs.Ring.{IsCentred}
use Rattle.ring_poly.proofs.Writes.{written}
use Rattle.primitive_bench.proofs.work.scattered.Goals as goal

pub loop-i-init : goal.loop-i-init
loop-i-init g c = (omega arith, λ k lt. absurd (omega arith))

pub loop-i-preserved : goal.loop-i-preserved
loop-i-preserved g c =
    let len = c.loop-i.invariant.0 in
    let cast : to_z w16 (of_z w16 c.center.result) ≡ c.center.result = omega (arith, ints) in (
      length-set c.loop-i.coefficients _ _ ∙ len,
      written (λ k x. IsCentred (to_z w32 g.row.M) x) c.loop-i.coefficients c.loop-i.i _ c.center.result (pos 0) (omega arith) cast c.loop-i.invariant.1 c.center.ensures.centred,
    )

pub returns : goal.returns
returns g c =
    let len = c.loop-i.invariant.0 in
    All-from_get_or (IsCentred (to_z w32 g.row.M)) c.loop-i.coefficients (pos 0) (λ k lt. c.loop-i.invariant.1 k (omega arith))
