use Rattle.std.proofs.Common.{◌≡◌, length}
use Rattle.system_calls.proofs.again.read_again.Given as goal

-- an interrupted read has given no byte
abbrev pub invariant-loop : goal.invariant-loop
invariant-loop g l = record {
  room : length l.into ≡ length l.initial.into;
  to_come : g.C.RandomCalls.told → g.C.RandomCalls.to_come l.calls ≡ g.C.RandomCalls.to_come l.initial.calls;
  openings : g.C.RandomCalls.told → g.C.RandomCalls.openings l.calls ≡ g.C.RandomCalls.openings l.initial.calls;
  failures : g.C.RandomCalls.failures l.calls ≡ g.C.RandomCalls.failures l.initial.calls;
  last : g.C.RandomCalls.last_failure l.calls ≡ g.C.RandomCalls.last_failure l.initial.calls;
}
