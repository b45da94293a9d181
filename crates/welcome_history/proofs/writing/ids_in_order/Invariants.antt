use Rattle.std.proofs.Common.{◌≡◌, take}
use Rattle.group_model.specs.Membership.{ids_named}
use Rattle.causal_history.specs.Rows.{history_of}
use Rattle.welcome_history.proofs.writing.ids_in_order.Given as goal

-- the ids of the places so far
abbrev pub invariant-loop-place : goal.invariant-loop-place
invariant-loop-place l = l.ids.items ≡ take l.place (ids_named (history_of l.history))
