use Rattle.std.proofs.Common.{refl}
use Rattle.group_model.specs.Sets.{here, there}
use Rattle.group_model.proofs.RemoveWins.{Named-older}
use Rattle.group_model.proofs.plain.members.is_named_with.Goals as goal

pub returns-then-names : goal.returns-then-names
returns-then-names c = (λ h. record { by = _; there_is = here; names = c.names.ensures.0 c.if-names.true }, λ n. refl)

pub returns : goal.returns
returns c = (
  λ h. let n = c.is_named.ensures.0 h in record { by = n.by; there_is = there n.there_is; names = n.names },
  λ n. c.is_named.ensures.1 (Named-older _ _ _ (λ k. let t = c.names.ensures.1 k in let f = c.if-names.false in cc) n),
)
