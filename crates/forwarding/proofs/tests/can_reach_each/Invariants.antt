use Rattle.std.proofs.Common.{ℕ, ◌<◌, get_or}
use Rattle.secret_book.specs.HeldBooks.{held}
use Rattle.body_parts.specs.declared.addressing.Receiver.{Receiver}
use Rattle.body_parts.specs.Sending.{CanReach}
use Rattle.forwarding.proofs.tests.can_reach_each.Given as goal

-- parts can be sent to each receiver before this one
abbrev pub invariant-loop-i : goal.invariant-loop-i
invariant-loop-i l = (k : ℕ) (d : Receiver) → k < l.i → CanReach (held l.book) (get_or l.to k d).place
