use Rattle.std.proofs.Common.{map, take}
use Rattle.group_model.specs.Sets.{In}
use Rattle.welcome_history.proofs.CardsHeld.{member_id}
use Rattle.welcome_history.proofs.cards_held.index_of.Given as goal

-- none of the ids so far is this one
abbrev pub invariant-loop-index : goal.invariant-loop-index
invariant-loop-index l = In l.id.0.0 (map member_id (take l.index l.ids)) → ⊥
