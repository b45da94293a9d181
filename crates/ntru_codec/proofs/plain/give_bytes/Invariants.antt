use Rattle.std.proofs.Common.{ℕ}
use Rattle.ntru_codec.proofs.Giving.{Giving}
use Rattle.ntru_codec.proofs.plain.give_bytes.Given as goal

abbrev pub invariant-loop-left : goal.invariant-loop-left
invariant-loop-left l = (n : ℕ) × Giving l.limit l.value l.modulus l.initial.bytes.items l.bytes.items n l.rest l.left

abbrev pub decreases-loop-left : goal.decreases-loop-left
decreases-loop-left l = l.left
