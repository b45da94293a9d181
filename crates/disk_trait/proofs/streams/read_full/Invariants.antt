use Rattle.std.proofs.Common.{◌≡◌, ◌≤◌, ◌+◌, ◌-◌, ◌++◌, length, take, drop}
use Rattle.group_fields.specs.Counts.{greatest_count}
use Rattle.system_calls.specs.Stored.{SameFiles}
use Rattle.disk_trait.specs.LockedFile.{bytes_of}
use Rattle.disk_trait.proofs.streams.read_full.Given as goal

-- the front of the buffer is what was read
abbrev pub invariant-loop-filled : goal.invariant-loop-filled
invariant-loop-filled g l = record {
  within : l.filled ≤ length l.into;
  size : length l.into ≡ length l.initial.into;
  there : g.C.FileCalls.told → l.filled ≤ length (drop l.at (bytes_of (g.C.FileCalls.file_at l.initial.calls (g.C.FileCalls.path_of l.initial.file))));
  fits : g.C.FileCalls.told → l.at + l.filled ≤ greatest_count;
  bytes : g.C.FileCalls.told → l.into ≡ take l.filled (drop l.at (bytes_of (g.C.FileCalls.file_at l.initial.calls (g.C.FileCalls.path_of l.initial.file)))) ++ drop l.filled l.initial.into;
  path : g.C.FileCalls.path_of l.file ≡ g.C.FileCalls.path_of l.initial.file;
  lock : g.C.FileCalls.is_locked l.file ≡ g.C.FileCalls.is_locked l.initial.file;
  files : g.C.FileCalls.told → SameFiles (g.C.FileCalls.file_at l.initial.calls) (g.C.FileCalls.file_at l.calls);
  failures : g.C.FileCalls.failures l.calls ≡ g.C.FileCalls.failures l.initial.calls;
}

abbrev pub decreases-loop-filled : goal.decreases-loop-filled
decreases-loop-filled g l = length l.initial.into - l.filled
