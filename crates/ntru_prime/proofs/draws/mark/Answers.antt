use Rattle.std.proofs.Common.{arith, get_or, ◌≡◌, refl}
use Rattle.ntru_model.specs.Draws.{marked}
use Rattle.ring_poly.proofs.Writes.{written}
use Rattle.ntru_prime.proofs.draws.mark.Goals as goal

pub loop-i-preserved : goal.loop-i-preserved
loop-i-preserved c =
    written (λ n word. word ≡ marked c.args.weight n (get_or c.args.words.now n 0)) c.loop-i.into c.loop-i.i _ _ 0 (omega arith) refl c.loop-i.invariant c.marked.ensures
