use Rattle.std.proofs.Common.{◌≡◌, take}
use Rattle.causal_history.specs.Rows.{history_of}
use Rattle.group_model.specs.Membership.{ids_named}
use Rattle.body_parts.proofs.Gathered.{ids_in}
use Rattle.next_messages.proofs.addressees.members_of.Given as goal

-- the members at the places so far
abbrev pub invariant-loop-place : goal.invariant-loop-place
invariant-loop-place l = ids_in l.members.items ≡ take l.place (ids_named (history_of l.history))
