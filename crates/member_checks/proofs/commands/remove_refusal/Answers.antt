use Rattle.member_checks.proofs.CommandStages.{remove-joined}
use Rattle.member_checks.proofs.commands.remove_refusal.Goals as goal

pub returns-in-Some : goal.returns-in-Some
returns-in-Some g c = λ M is.
    remove-joined g.K.Kem g.G.Membership.rule M c.args.target.now.0.0 c.in-Some.refusal (c.in-Some.ensures M is)
