use Rattle.std.proofs.Common.{◌≡◌, ℕ, ◌<◌, ◌↔◌, true}
use Rattle.causal_history.specs.Bits.{mark}
use Rattle.causal_history.proofs.marks.Marks.set_first.Given as goal

abbrev pub invariant-loop-index : goal.invariant-loop-index
invariant-loop-index l = (i : ℕ) → (mark l.self i ≡ true) ↔ (i < l.index)
