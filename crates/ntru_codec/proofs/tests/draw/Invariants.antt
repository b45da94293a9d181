use Rattle.std.proofs.Common.{ℕ, ◌<◌, get_or}
use Rattle.ntru_codec.proofs.tests.draw.Given as goal

abbrev pub invariant-loop-i : goal.invariant-loop-i
invariant-loop-i l = (k : ℕ) → k < l.i → get_or l.digits k 0 < l.modulus
