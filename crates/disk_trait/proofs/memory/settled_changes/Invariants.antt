use Rattle.std.proofs.Common.{◌≤◌, length, drop}
use Rattle.disk_trait.specs.Replay.{AllWrites}
use Rattle.disk_trait.proofs.memory.settled_changes.Given as goal

-- only writes lie behind
abbrev pub invariant-loop-count : goal.invariant-loop-count
invariant-loop-count l = record {
  within : l.count ≤ length l.changes;
  pending : AllWrites (drop l.count l.changes);
}

abbrev pub decreases-loop-count : goal.decreases-loop-count
decreases-loop-count l = l.count
