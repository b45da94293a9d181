use Rattle.std.proofs.Common.{◌≡◌, false, true}
use Rattle.causal_history.specs.Rows.{history_of}
use Rattle.group_model.proofs.Numbers.{number-of}
use Rattle.member_view.proofs.Senders.{no-sender}
use Rattle.member_checks.proofs.stepped.has_stepped.Goals as goal

-- who sent nothing has stepped nothing
pub returns-in-None : goal.returns-in-None
returns-in-None c =
    let h = history_of c.args.history.now in
    let x = c.args.id.now.0.0 in (
      λ y. absurd (let e : false ≡ true = y in cc),
      λ s. let r = number-of h s.there_is in (no-sender h r.0 s.by x r.1 c.in-None.ensures).1 s.own,
    )

pub returns-in-Some : goal.returns-in-Some
returns-in-Some c = c.has_step_of.ensures c.args.id.now.0.0 c.in-Some.ensures
