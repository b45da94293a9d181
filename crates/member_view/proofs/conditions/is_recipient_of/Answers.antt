use Rattle.std.proofs.Common.{IsTrue, ◌≢◌, ◌↔◌, not, refl}
use Rattle.causal_history.specs.Rows.{history_of}
use Rattle.group_messages.specs.Messages.{message_of, kind_of}
use Rattle.group_model.specs.Messages.{Message}
use Rattle.group_model.specs.Membership.{InView}
use Rattle.group_model.proofs.Numbers.{number-in}
use Rattle.group_model.proofs.Pasts.{deps-stand}
use Rattle.member_view.proofs.Oldest.{at-number}
use Rattle.member_view.proofs.KindLaws.{stands-well, recipient-then, recipient-else}
use Rattle.member_view.proofs.conditions.is_recipient_of.Goals as goal

pub sees-requires-clause-stand : goal.sees-requires-clause-stand
sees-requires-clause-stand g c = λ i k. deps-stand (history_of c.args.history.now) c.count-count.ensures.kept.history
    (number-in (history_of c.args.history.now) c.args.index (message_of c.row-row.result) c.row-row.ensures.message) i k

pub sees-requires-clause-create : goal.sees-requires-clause-create
sees-requires-clause-create g c = stands-well (history_of c.args.history.now) (message_of c.row-row.result)
    (number-in (history_of c.args.history.now) c.args.index (message_of c.row-row.result) c.row-row.ensures.message) (kind_of c.row-row.result)

pub returns-then-not-is_same : goal.returns-then-not-is_same
returns-then-not-is_same g c = λ o r. at-number (history_of c.args.history.now) c.args.index (message_of c.row-row.result) o c.row-row.ensures.message r
    (λ (z : Message). IsTrue c.sees.result ↔ (InView g.G.Membership.rule (history_of c.args.history.now) z c.args.author.now.id.0.0
    × (c.args.author.now.id.0.0 ≢ z.sender)))
    (recipient-then (InView g.G.Membership.rule (history_of c.args.history.now) (message_of c.row-row.result) c.args.author.now.id.0.0)
    c.row-row.result.sender.0.0 c.args.author.now.id.0.0 c.sees.result c.is_same.result c.sees.ensures (rw c.sender.ensures at c.is_same.ensures)
    (let t = c.if-not-is_same.true in cc))

pub returns-else-not-is_same : goal.returns-else-not-is_same
returns-else-not-is_same g c = λ o r. at-number (history_of c.args.history.now) c.args.index (message_of c.row-row.result) o c.row-row.ensures.message r
    (λ (z : Message). IsTrue (not c.is_same.result) ↔ (InView g.G.Membership.rule (history_of c.args.history.now) z c.args.author.now.id.0.0
    × (c.args.author.now.id.0.0 ≢ z.sender)))
    (recipient-else (InView g.G.Membership.rule (history_of c.args.history.now) (message_of c.row-row.result) c.args.author.now.id.0.0)
    c.row-row.result.sender.0.0 c.args.author.now.id.0.0 (not c.is_same.result) c.is_same.result (rw c.sender.ensures at c.is_same.ensures)
    c.if-not-is_same.false (rw c.if-not-is_same.false refl))
