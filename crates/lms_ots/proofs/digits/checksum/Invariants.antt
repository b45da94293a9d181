use Rattle.std.proofs.Common.{◌≡◌, ◌-◌, ◌≤◌, ◌*◌}
use Rattle.lms_ots.specs.OneTime.{coef, total}
use Rattle.lms_ots.proofs.digits.checksum.Given as goal

abbrev pub invariant-digits : goal.invariant-digits
invariant-digits l = (l.sum ≡ total (λ i. 15 - coef l.hash i) l.i) × (l.sum ≤ 15 * l.i)
