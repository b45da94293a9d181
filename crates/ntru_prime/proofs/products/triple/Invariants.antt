use Rattle.std.proofs.Common.{◌≡◌, take, map, pos, ◌*ℤ◌}
use Rattle.ntru_prime.proofs.products.triple.Given as goal

abbrev pub invariant-loop-i : goal.invariant-loop-i
invariant-loop-i l = take l.i l.into ≡ map (λ d. pos 3 *ℤ d) (take l.i l.a)
