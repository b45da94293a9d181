use Rattle.std.proofs.Common.{◌≡◌, ◌≤◌, ◌-◌, Some, false, length, take}
use Rattle.system_calls.specs.Stored.{SameElsewhere, fresh_file}
use Rattle.mail_trait.specs.Streams.{fresh_with}
use Rattle.mail_trait.proofs.streams.write_new.Given as goal

-- the new file has the front of the bytes, and no write has failed
abbrev pub invariant-loop-done : goal.invariant-loop-done
invariant-loop-done g l = record {
  within : l.done ≤ length l.bytes;
  written : g.C.FileCalls.told → g.C.FileCalls.file_at l.initial.calls (g.C.FileCalls.path_of l.initial.file) ≡ Some (fresh_file false) →
      g.C.FileCalls.file_at l.calls (g.C.FileCalls.path_of l.initial.file) ≡ Some (fresh_with (take l.done l.bytes));
  others : g.C.FileCalls.told → SameElsewhere (g.C.FileCalls.path_of l.initial.file) (g.C.FileCalls.file_at l.initial.calls) (g.C.FileCalls.file_at l.calls);
  path : g.C.FileCalls.path_of l.file ≡ g.C.FileCalls.path_of l.initial.file;
  calm : g.C.FileCalls.failures l.calls ≡ g.C.FileCalls.failures l.initial.calls;
}

abbrev pub decreases-loop-done : goal.decreases-loop-done
decreases-loop-done g l = length l.bytes - l.done
