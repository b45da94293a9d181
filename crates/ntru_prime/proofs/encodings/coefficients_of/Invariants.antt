use Rattle.std.proofs.Common.{◌≡◌, ◌/◌, take, map, pos, ◌-ℤ◌}
use Rattle.ntru_prime.proofs.encodings.coefficients_of.Given as goal

abbrev pub invariant-loop-i : goal.invariant-loop-i
invariant-loop-i l = take l.i l.into ≡ map (λ r. pos r -ℤ pos (l.q / 2)) (take l.i l.digits)
