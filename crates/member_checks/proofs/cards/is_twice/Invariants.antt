use Rattle.std.proofs.Common.{◌≡◌, ◌≢◌}
use Rattle.member_checks.proofs.Finding.{NoneBelow}
use Rattle.member_checks.proofs.cards.is_twice.Given as goal

abbrev pub invariant-loop-other : goal.invariant-loop-other
invariant-loop-other l = NoneBelow l.cards (λ i other. (i ≢ l.index) × (other.id.0.0 ≡ l.id.0.0)) l.other
