use Rattle.std.proofs.Common.{◌≡◌, None, drop}
use Rattle.system_calls.specs.MemFiles.{all_changed, seen_as}
use Rattle.system_calls.proofs.changes.look.Given as goal

-- the rest of the changes leads to the same
abbrev pub invariant-loop-change : goal.invariant-loop-change
invariant-loop-change l =
    all_changed l.path (seen_as l.seen) (drop l.change-index l.changes) ≡ all_changed l.path None l.changes
