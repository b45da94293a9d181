use Rattle.std.proofs.Common.{◌≡◌, true, false}
use Rattle.causal_history.specs.Rows.{history_of}
use Rattle.group_messages.specs.Messages.{message_of}
use Rattle.member_view.proofs.KindLaws.{view-named}
use Rattle.member_view.proofs.conditions.sees.Goals as goal

pub returns-in-None : goal.returns-in-None
returns-in-None g c = (
  λ t. absurd (let e : false ≡ true = t in cc),
  λ v. absurd (c.in-None.ensures.place (view-named g.G.Membership.rule g.G.Membership.is_rule (history_of c.args.history.now)
      (message_of c.args.header.now) c.args.id.now.0.0 v)),
)
