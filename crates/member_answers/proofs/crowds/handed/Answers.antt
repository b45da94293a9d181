use Rattle.group_messages.specs.Messages.{message_of}
use Rattle.causal_history.specs.Bits.{bit}
use Rattle.causal_history.specs.Rows.{history_of}
use Rattle.member_answers.proofs.AnswerCrowds.{hands}
use Rattle.member_answers.proofs.crowds.handed.Goals as goal

pub returns : goal.returns
returns g c = λ place m k.
    hands g.G.Membership.rule g.G.Membership.is_rule (history_of c.args.history.now) (message_of c.args.operation.now)
    c.requires.history place m k c.args.target.now.0.0 c.requires.adds (bit c.members_with-now.result.0)
    (bit c.alone-added.result.0) (bit c.both.result.0) c.members_with-now.ensures c.alone-added.ensures c.both.ensures
