use Rattle.causal_history.specs.Bits.{bit}
use Rattle.body_parts.proofs.Gathered.{AreGathered, ids_in}
use Rattle.body_parts.proofs.addressing.receivers_among.Given as goal

-- the receivers at the places so far
abbrev pub invariant-loop-place : goal.invariant-loop-place
invariant-loop-place l = AreGathered (ids_in l.members) (bit l.to.0) l.place l.receivers.items
