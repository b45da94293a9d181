use Rattle.std.proofs.Common.{◌≡◌, ℕ, ◌<◌}
use Rattle.causal_history.specs.Bits.{mark}
use Rattle.causal_history.proofs.marks.Marks.agrees_below.Given as goal

abbrev pub invariant-loop-index : goal.invariant-loop-index
invariant-loop-index l = (i : ℕ) → i < l.index → mark l.self i ≡ mark l.other i
