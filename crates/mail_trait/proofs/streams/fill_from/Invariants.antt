use Rattle.std.proofs.Common.{◌≡◌, ◌≤◌, ◌++◌, ◌-◌, length, take}
use Rattle.mail_trait.proofs.streams.fill_from.Given as goal

-- the buffer keeps its length, its front is what was read, and no read has failed
abbrev pub invariant-loop-filled : goal.invariant-loop-filled
invariant-loop-filled g l = record {
  same : length l.into ≡ length l.initial.into;
  within : l.filled ≤ length l.into;
  read : g.C.RandomCalls.told → g.C.RandomCalls.to_come l.initial.calls ≡ take l.filled l.into ++ g.C.RandomCalls.to_come l.calls;
  opened : g.C.RandomCalls.told → g.C.RandomCalls.openings l.calls ≡ g.C.RandomCalls.openings l.initial.calls;
  calm : g.C.RandomCalls.failures l.calls ≡ g.C.RandomCalls.failures l.initial.calls;
}

abbrev pub decreases-loop-filled : goal.decreases-loop-filled
decreases-loop-filled g l = length l.initial.into - l.filled
