use Rattle.std.proofs.Common.{ℕ}
use Rattle.ntru_codec.proofs.Bytes.{Shrinking}
use Rattle.ntru_codec.proofs.digit.shrink.Given as goal

abbrev pub invariant-loop-left : goal.invariant-loop-left
invariant-loop-left l = (rest : ℕ) × Shrinking l.limit l.modulus l.bytes rest l.left

abbrev pub decreases-loop-left : goal.decreases-loop-left
decreases-loop-left l = l.left
