use Rattle.std.proofs.Common.{◌≡◌}
use Rattle.system_calls.specs.Stored.{SameFiles}
use Rattle.system_calls.proofs.again.read_at_again.Given as goal

-- an interrupted read has done nothing
abbrev pub invariant-loop : goal.invariant-loop
invariant-loop g l = record {
  room : g.C.FileCalls.told → l.into ≡ l.initial.into;
  path : g.C.FileCalls.path_of l.file ≡ g.C.FileCalls.path_of l.initial.file;
  lock : g.C.FileCalls.is_locked l.file ≡ g.C.FileCalls.is_locked l.initial.file;
  files : g.C.FileCalls.told → SameFiles (g.C.FileCalls.file_at l.initial.calls) (g.C.FileCalls.file_at l.calls);
  failures : g.C.FileCalls.failures l.calls ≡ g.C.FileCalls.failures l.initial.calls;
}
