use Rattle.member_checks.proofs.CommandStages.{send-joined}
use Rattle.member_checks.proofs.commands.send_refusal.Goals as goal

pub returns-in-Some : goal.returns-in-Some
returns-in-Some g c = λ M is.
    send-joined g.K.Kem g.G.Membership.rule M c.args.text.now c.in-Some.refusal (c.in-Some.ensures M is)
