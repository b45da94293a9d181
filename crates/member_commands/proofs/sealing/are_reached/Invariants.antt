use Rattle.std.proofs.Common.{◌≡◌, ◌<◌, ℕ, true}
use Rattle.causal_history.specs.Bits.{bit}
use Rattle.secret_book.specs.HeldBooks.{held}
use Rattle.body_parts.specs.Sending.{CanReach}
use Rattle.member_commands.proofs.sealing.are_reached.Given as goal

abbrev pub invariant-loop-place : goal.invariant-loop-place
invariant-loop-place g l = (p : ℕ) → p < l.place → bit l.to.0 p ≡ true → CanReach (held l.book) p
