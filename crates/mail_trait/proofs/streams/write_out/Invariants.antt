use Rattle.std.proofs.Common.{◌≡◌, ◌≤◌, ◌++◌, ◌-◌, length, take}
use Rattle.mail_trait.proofs.streams.write_out.Given as goal

-- the front of the bytes was written, and no write has failed
abbrev pub invariant-loop-done : goal.invariant-loop-done
invariant-loop-done g l = record {
  within : l.done ≤ length l.bytes;
  written : g.C.OutputCalls.told → g.C.OutputCalls.written l.calls ≡ g.C.OutputCalls.written l.initial.calls ++ take l.done l.bytes;
  calm : g.C.OutputCalls.failures l.calls ≡ g.C.OutputCalls.failures l.initial.calls;
}

abbrev pub decreases-loop-done : goal.decreases-loop-done
decreases-loop-done g l = length l.bytes - l.done
