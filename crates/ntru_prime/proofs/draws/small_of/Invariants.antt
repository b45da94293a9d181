use Rattle.std.proofs.Common.{◌≡◌, take, map}
use Rattle.ntru_model.specs.Draws.{small_coefficient}
use Rattle.ntru_prime.proofs.draws.small_of.Given as goal

abbrev pub invariant-loop-i : goal.invariant-loop-i
invariant-loop-i l = take l.i l.into ≡ map (λ word. small_coefficient word) (take l.i l.words)
