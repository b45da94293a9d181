use Rattle.std.proofs.Common.{◌≡◌, ◌≤◌, ◌+◌, ◌-◌, length, take}
use Rattle.group_fields.specs.Counts.{greatest_count}
use Rattle.system_calls.specs.Stored.{SameElsewhere, KeepsName}
use Rattle.disk_trait.specs.LockedFile.{WroteFile}
use Rattle.disk_trait.proofs.streams.write_full.Given as goal

-- the front of the bytes is written
abbrev pub invariant-loop-done : goal.invariant-loop-done
invariant-loop-done g l = record {
  within : l.done ≤ length l.bytes;
  fits : g.C.FileCalls.told → l.at + l.done ≤ greatest_count;
  written : g.C.FileCalls.told → WroteFile l.at (take l.done l.bytes) (g.C.FileCalls.file_at l.initial.calls (g.C.FileCalls.path_of l.initial.file)) (g.C.FileCalls.file_at l.calls (g.C.FileCalls.path_of l.initial.file));
  name : g.C.FileCalls.told → KeepsName (g.C.FileCalls.file_at l.initial.calls (g.C.FileCalls.path_of l.initial.file)) (g.C.FileCalls.file_at l.calls (g.C.FileCalls.path_of l.initial.file));
  others : g.C.FileCalls.told → SameElsewhere (g.C.FileCalls.path_of l.initial.file) (g.C.FileCalls.file_at l.initial.calls) (g.C.FileCalls.file_at l.calls);
  path : g.C.FileCalls.path_of l.file ≡ g.C.FileCalls.path_of l.initial.file;
  lock : g.C.FileCalls.is_locked l.file ≡ g.C.FileCalls.is_locked l.initial.file;
  failures : g.C.FileCalls.failures l.calls ≡ g.C.FileCalls.failures l.initial.calls;
}

abbrev pub decreases-loop-done : goal.decreases-loop-done
decreases-loop-done g l = length l.bytes - l.done
