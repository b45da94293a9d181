use Rattle.std.proofs.Common.{arith, ◌≡◌, pos, to_z, of_z, w32}
use Rattle.std.specs.Int.{w16}
use Rattle.std.proofs.lemmas.Int.{ints}
use Rattle.std.proofs.lemmas.List.Elements.{All-from_get_or}
use Rattle.ring_poly.specs.Ring.{IsCentred}
use Rattle.ring_poly.proofs.Writes.{written}
use Rattle.ring_poly.proofs.tests.recentred.Goals as goal

pub loop-i-init : goal.loop-i-init
loop-i-init g c = λ k lt. absurd (omega arith)

pub loop-i-preserved : goal.loop-i-preserved
loop-i-preserved g c =
    let size = c.center.ensures.centred in
    let cast : to_z w16 (of_z w16 c.center.result) ≡ c.center.result = omega (arith, ints) in
    written (λ k x. IsCentred (to_z w32 g.row.Q) x) c.loop-i.a c.loop-i.i _ c.center.result (pos 0) (omega arith) cast c.loop-i.invariant size

pub returns : goal.returns
returns g c = All-from_get_or (IsCentred (to_z w32 g.row.Q)) c.loop-i.a (pos 0) (λ k lt. c.loop-i.invariant k (omega arith))
