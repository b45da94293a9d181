use Rattle.std.proofs.Common.{ℕ, ◌<◌}
use Rattle.std.specs.Prelude.{IsSome}
use Rattle.secret_book.specs.HeldBooks.{held}
use Rattle.add_ops.proofs.tests.adding.all_paired.Given as goal

-- each place before this one has a pairing
abbrev pub invariant-loop-place : goal.invariant-loop-place
invariant-loop-place l = (q : ℕ) → q < l.place → IsSome ((held l.book).pairing q)
