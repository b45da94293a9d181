use Rattle.std.proofs.Common.{◌≡◌, ◌≤◌, drop, vec_capacity}
use Rattle.disk_trait.specs.Replay.{overlay}
use Rattle.disk_trait.proofs.memory.replay.Given as goal

-- the rest of the changes leads to the same bytes
abbrev pub invariant-loop-change : goal.invariant-loop-change
invariant-loop-change l = record {
  rest : overlay l.target.items (drop l.change-index l.changes) ≡ overlay l.initial.target.items l.changes;
  room : vec_capacity l.initial.target ≤ vec_capacity l.target;
}
