use Rattle.std.proofs.Common.{ℕ, ◌<◌, ◌≡◌, true}
use Rattle.causal_history.specs.Bits.{bit}
use Rattle.member_view.proofs.members.is_full.Given as goal

abbrev pub invariant-loop-place : goal.invariant-loop-place
invariant-loop-place l = (p : ℕ) → p < l.place → bit l.crowd.0 p ≡ true
