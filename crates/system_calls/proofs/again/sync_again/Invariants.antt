use Rattle.std.proofs.Common.{◌≡◌}
use Rattle.system_calls.specs.Stored.{KeepsBytes, SameElsewhere}
use Rattle.system_calls.proofs.again.sync_again.Given as goal

-- an interrupted sync has changed no bytes
abbrev pub invariant-loop : goal.invariant-loop
invariant-loop g l = record {
  path : g.C.FileCalls.path_of l.file ≡ g.C.FileCalls.path_of l.initial.file;
  lock : g.C.FileCalls.is_locked l.file ≡ g.C.FileCalls.is_locked l.initial.file;
  bytes : g.C.FileCalls.told → KeepsBytes (g.C.FileCalls.file_at l.initial.calls (g.C.FileCalls.path_of l.initial.file)) (g.C.FileCalls.file_at l.calls (g.C.FileCalls.path_of l.initial.file));
  others : g.C.FileCalls.told → SameElsewhere (g.C.FileCalls.path_of l.initial.file) (g.C.FileCalls.file_at l.initial.calls) (g.C.FileCalls.file_at l.calls);
  failures : g.C.FileCalls.failures l.calls ≡ g.C.FileCalls.failures l.initial.calls;
}
