use Rattle.member_checks.proofs.CommandStages.{update-joined}
use Rattle.member_checks.proofs.commands.update_refusal.Goals as goal

pub returns-in-Some : goal.returns-in-Some
returns-in-Some g c = λ M is. update-joined g.K.Kem g.G.Membership.rule M c.in-Some.refusal (c.in-Some.ensures M is)
