use Rattle.causal_history.specs.Rows.{history_of}
use Rattle.group_messages.specs.Messages.{message_of}
use Rattle.member_view.specs.Rules.{rule_causes}
use Rattle.member_view.proofs.FaultLaws.{single-rules, answer-first, answer-none, goes-on, forks-none}
use Rattle.member_view.proofs.faults.rules.Goals as goal

pub returns-clause-first : goal.returns-clause-first
returns-clause-first g c = answer-first (rule_causes g.G.Membership.rule (history_of c.args.history.now) (message_of c.args.header.now))
    (single-rules g.G.Membership.rule (history_of c.args.history.now) (message_of c.args.header.now)) c.first_fault.result c.first_fault.ensures

pub returns-clause-none : goal.returns-clause-none
returns-clause-none g c = answer-none (rule_causes g.G.Membership.rule (history_of c.args.history.now) (message_of c.args.header.now))
    (single-rules g.G.Membership.rule (history_of c.args.history.now) (message_of c.args.header.now)) c.first_fault.result c.first_fault.ensures

pub returns-clause-goes_on : goal.returns-clause-goes_on
returns-clause-goes_on g c = λ e. goes-on g.G.Membership.rule (history_of c.args.history.now) (message_of c.args.header.now)
    (rw e at c.first_fault.ensures)

pub returns-clause-unforked : goal.returns-clause-unforked
returns-clause-unforked g c = λ e. forks-none g.G.Membership.rule (history_of c.args.history.now) (message_of c.args.header.now)
    (rw e at c.first_fault.ensures)
