use Rattle.std.proofs.Common.{◌≡◌, ◌<◌, ℕ, true}
use Rattle.causal_history.specs.Bits.{bit}
use Rattle.welcome_history.proofs.cards_held.are_all_seen.Given as goal

-- all indices so far are marked
abbrev pub invariant-loop-index : goal.invariant-loop-index
invariant-loop-index l = (p : ℕ) → p < l.index → bit l.seen.0 p ≡ true
