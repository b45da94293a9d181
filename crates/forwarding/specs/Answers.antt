-- Messages that a member may make as its next answer. docs/GROUP.md, "Membership".
use Rattle.std.specs.Prelude.{ℕ, ◌∷◌}
use Rattle.group_model.specs.Messages.{Message, History, IsHistory, AreHeads}
use Rattle.group_model.specs.Membership.{ids_named, MovesNobody}
use Rattle.group_model.specs.Marks.{IsPlace}

-- The message goes on from the whole history, is the member's at the place, and names and removes nobody.
pub record IsAnswerOf (h : History) (place : ℕ) (m : Message) : Type 0 where
  pub history : IsHistory (m ∷ h)
  pub heads : AreHeads h m.predecessors
  pub sender : IsPlace (ids_named h) place m.sender
  pub moves_nobody : MovesNobody m.kind
