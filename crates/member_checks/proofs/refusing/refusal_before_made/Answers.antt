use Rattle.member_checks.proofs.InputStages.{may-make, not-made}
use Rattle.member_checks.proofs.refusing.refusal_before_made.Goals as goal

pub returns-in-Init : goal.returns-in-Init
returns-in-Init g c = may-make g.K.Kem g.G.Membership.rule c.args.input.now c.in-Init.field-0 c.in-Init.field-1 c.in-Init.is

pub returns-in_default : goal.returns-in_default
returns-in_default g c = not-made g.K.Kem g.G.Membership.rule c.args.input.now c.in_default.not-Init
