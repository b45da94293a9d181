use Rattle.std.proofs.Common.{◌≡◌, ◌+◌}
use Rattle.std.specs.Prelude.{vec_len}
use Rattle.secret_book.proofs.book.retire_places.Given as goal

-- each step takes a place
abbrev pub invariant-loop-i : goal.invariant-loop-i
invariant-loop-i g l = vec_len l.places + l.i ≡ l.count
