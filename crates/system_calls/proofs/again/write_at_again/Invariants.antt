use Rattle.std.proofs.Common.{◌≡◌}
use Rattle.system_calls.specs.Stored.{SameFiles}
use Rattle.system_calls.proofs.again.write_at_again.Given as goal

-- an interrupted write has done nothing
abbrev pub invariant-loop : goal.invariant-loop
invariant-loop g l = record {
  path : g.C.FileCalls.path_of l.file ≡ g.C.FileCalls.path_of l.initial.file;
  lock : g.C.FileCalls.is_locked l.file ≡ g.C.FileCalls.is_locked l.initial.file;
  files : g.C.FileCalls.told → SameFiles (g.C.FileCalls.file_at l.initial.calls) (g.C.FileCalls.file_at l.calls);
  failures : g.C.FileCalls.failures l.calls ≡ g.C.FileCalls.failures l.initial.calls;
}
