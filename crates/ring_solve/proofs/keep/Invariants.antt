use Rattle.std.proofs.Common.{◌≡◌, ℕ, ◌+◌, ◌*◌, ◌%◌, ◌<◌, ◌≤◌, slice_index}
use Rattle.ring_solve.proofs.keep.Given as goal

abbrev pub invariant-loop-j : goal.invariant-loop-j
invariant-loop-j l = record {
  written : (k : ℕ) → k < l.j → slice_index l.basis (l.at + k) ≡ slice_index l.row k % l.m * l.scale % l.m;
  before : (k : ℕ) → k < l.at → slice_index l.basis k ≡ slice_index l.initial.basis k;
  after : (k : ℕ) → l.at + l.j ≤ k → slice_index l.basis k ≡ slice_index l.initial.basis k;
}
