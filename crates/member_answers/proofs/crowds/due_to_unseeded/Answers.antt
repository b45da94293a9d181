use Rattle.std.proofs.Common.{◌≡◌, true, false, sym, ◌∙◌}
use Rattle.group_messages.specs.Messages.{message_of}
use Rattle.causal_history.specs.Bits.{bit}
use Rattle.causal_history.specs.Rows.{history_of}
use Rattle.member_answers.proofs.AnswerCrowds.{crowd-handed, crowd-nobody}
use Rattle.member_answers.proofs.AnswerKinds.{added-one}
use Rattle.member_answers.proofs.crowds.due_to_unseeded.Goals as goal

-- the own add is answered by an ack, which is for nobody
pub returns-then-is_same : goal.returns-then-is_same
returns-then-is_same g c = λ place.
    let o = message_of c.args.operation.now in
    crowd-nobody g.G.Membership.rule g.G.Membership.is_rule (history_of c.args.history.now) o c.requires.history place
    c.args.me.now.0.0 c.args.took (bit c.new.result.0) c.new.ensures
    (λ y adds. added-one o.kind y c.in-Some.target.0.0 adds c.in-Some.ensures ∙ c.is_same.ensures.0 c.if-is_same.true)
    (λ e s. c.requires.unseeded s)

pub returns-else-is_same : goal.returns-else-is_same
returns-else-is_same g c = λ place.
    crowd-handed g.G.Membership.rule g.G.Membership.is_rule (history_of c.args.history.now)
    (message_of c.args.operation.now) c.requires.history place c.args.me.now.0.0 c.args.took (bit c.handed.result.0)
    c.in-Some.target.0.0 c.in-Some.ensures
    (λ e. let no : false ≡ true = sym c.if-is_same.false ∙ c.is_same.ensures.1 e in absurd cc) (c.handed.ensures place)

pub returns-in-None : goal.returns-in-None
returns-in-None g c = λ place.
    crowd-nobody g.G.Membership.rule g.G.Membership.is_rule (history_of c.args.history.now)
    (message_of c.args.operation.now) c.requires.history place c.args.me.now.0.0 c.args.took
    (bit c.new-in-None.result.0) c.new-in-None.ensures (λ y adds. absurd (c.in-None.ensures y adds))
    (λ e s. c.requires.unseeded s)
