use Rattle.causal_history.specs.Bits.{mark}
use Rattle.causal_history.specs.Rows.{history_of}
use Rattle.group_model.specs.Validity.{HasStepped}
use Rattle.member_view.proofs.Oldest.{so_far}
use Rattle.member_view.proofs.author.has_stepped.Given as goal

abbrev pub invariant-loop-index : goal.invariant-loop-index
invariant-loop-index l = HasStepped (so_far (mark l.of) (history_of l.history) l.index) l.author.id.0.0 → ⊥
