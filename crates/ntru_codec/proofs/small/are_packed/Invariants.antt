use Rattle.std.proofs.Common.{ℕ, ◌<◌, get_or}
use Rattle.ntru_codec.specs.Small.{IsPacked}
use Rattle.ntru_codec.proofs.small.are_packed.Given as goal

abbrev pub invariant-loop-i : goal.invariant-loop-i
invariant-loop-i l = (j : ℕ) → j < l.i → IsPacked (get_or l.bytes j 0)
