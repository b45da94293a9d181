use Rattle.std.proofs.Common.{◌≡◌, ℕ, ◌<◌, get_or}
use Rattle.ntru_model.specs.Draws.{marked}
use Rattle.ntru_prime.proofs.draws.mark.Given as goal

abbrev pub invariant-loop-i : goal.invariant-loop-i
invariant-loop-i l = (n : ℕ) → n < l.i → get_or l.into n 0 ≡ marked l.weight n (get_or l.words n 0)
