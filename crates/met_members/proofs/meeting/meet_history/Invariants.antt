use Rattle.std.proofs.Common.{[], take}
use Rattle.group_model.specs.Membership.{ids_named}
use Rattle.causal_history.specs.Rows.{cards_of, history_of}
use Rattle.met_members.specs.Meeting.{MeetsMore}
use Rattle.met_members.proofs.meeting.meet_history.Given as goal

-- the members at the places so far were met
abbrev pub invariant-loop-place : goal.invariant-loop-place
invariant-loop-place g l = MeetsMore g.K.Kem l.me.0.0 (cards_of l.history) [] (take l.place (ids_named (history_of l.history)))
    l.initial.book l.book
