use Rattle.std.proofs.Common.{◌≡◌, ◌≤◌, IfSome, take, vec_len}
use Rattle.system_calls.specs.Stored.{SameFiles}
use Rattle.mail_trait.proofs.streams.read_at_most.Given as goal

-- no more was read than is asked for, it is the front of the file, and no read has failed
abbrev pub invariant-loop : goal.invariant-loop
invariant-loop g l = record {
  within : vec_len l.bytes ≤ l.limit;
  read : g.C.FileCalls.told → IfSome (g.C.FileCalls.file_at l.initial.calls (g.C.FileCalls.path_of l.initial.file)) (λ stored. l.bytes.items ≡ take (vec_len l.bytes) stored.bytes);
  path : g.C.FileCalls.path_of l.file ≡ g.C.FileCalls.path_of l.initial.file;
  files : g.C.FileCalls.told → SameFiles (g.C.FileCalls.file_at l.initial.calls) (g.C.FileCalls.file_at l.calls);
  calm : g.C.FileCalls.failures l.calls ≡ g.C.FileCalls.failures l.initial.calls;
}
