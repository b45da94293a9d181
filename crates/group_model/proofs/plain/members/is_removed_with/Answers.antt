use Rattle.std.proofs.Common.{refl}
use Rattle.group_model.specs.Sets.{here, there}
use Rattle.group_model.proofs.RemoveWins.{Removed-older}
use Rattle.group_model.proofs.plain.members.is_removed_with.Goals as goal

pub returns-then-removes : goal.returns-then-removes
returns-then-removes c = (λ h. record { by = _; there_is = here; removes = c.removes.ensures.0 c.if-removes.true }, λ n. refl)

pub returns : goal.returns
returns c = (
  λ h. let n = c.is_removed.ensures.0 h in record { by = n.by; there_is = there n.there_is; removes = n.removes },
  λ n. c.is_removed.ensures.1 (Removed-older _ _ _ (λ k. let t = c.removes.ensures.1 k in let f = c.if-removes.false in cc) n),
)
