use Rattle.std.proofs.Common.{◌≡◌}
use Rattle.ring_solve.proofs.Eliminates.{IsCleared}
use Rattle.ring_solve.proofs.insert.Given as goal

abbrev pub invariant-loop-c : goal.invariant-loop-c
invariant-loop-c l = record {
  basis : l.basis ≡ l.initial.basis;
  kept : l.kept ≡ l.initial.kept;
  row : IsCleared l.m l.initial.basis l.initial.kept l.initial.row l.c l.row l.steps;
}
