use Rattle.std.proofs.Common.{◌≡◌, ℕ, ◌+◌, ◌*◌, ◌<◌, ◌≤◌, slice_index}
use Rattle.ring_solve.proofs.add_small_multiple.Given as goal

abbrev pub invariant-loop-j : goal.invariant-loop-j
invariant-loop-j l = record {
  done : (k : ℕ) → k < l.j → slice_index l.row k ≡ slice_index l.initial.row k + l.factor * slice_index l.basis (l.at + k);
  same : (k : ℕ) → l.j ≤ k → slice_index l.row k ≡ slice_index l.initial.row k;
}
