use Rattle.std.proofs.Common.{◌≡◌, ℕ, ◌+◌, ◌*◌, ◌<◌, ◌≤◌, slice_index, map, pos}
use Rattle.ring_solve.specs.Elimination.{Vanishes}
use Rattle.ring_solve.proofs.solve.Given as goal

abbrev pub invariant-loop-step : goal.invariant-loop-step
invariant-loop-step l = record {
  below : (j : ℕ) → slice_index l.x j < l.m;
  one : slice_index l.x l.free ≡ 1;
  beyond : (j : ℕ) → l.free < j → slice_index l.x j ≡ 0;
  unset : (j : ℕ) → j + l.step < l.free → slice_index l.x j ≡ 0;
  vanishes : (c : ℕ) → l.free ≤ c + l.step → c < l.free → Vanishes l.m (map pos l.x) l.basis (c * l.width);
}
