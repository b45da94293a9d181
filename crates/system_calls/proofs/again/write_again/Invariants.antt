use Rattle.std.proofs.Common.{◌≡◌}
use Rattle.system_calls.proofs.again.write_again.Given as goal

-- an interrupted write has taken no byte
abbrev pub invariant-loop : goal.invariant-loop
invariant-loop g l = record {
  written : g.C.OutputCalls.told → g.C.OutputCalls.written l.calls ≡ g.C.OutputCalls.written l.initial.calls;
  failures : g.C.OutputCalls.failures l.calls ≡ g.C.OutputCalls.failures l.initial.calls;
  last : g.C.OutputCalls.last_failure l.calls ≡ g.C.OutputCalls.last_failure l.initial.calls;
}
