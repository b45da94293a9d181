use Rattle.std.proofs.Common.{List, arith, ap, length, subst, sym, ◌∙◌}
use Rattle.group_model.specs.Messages.{Message}
use Rattle.group_model.specs.Marks.{HasNumber}
use Rattle.group_model.specs.Validity.{Answers}
use Rattle.group_messages.specs.Messages.{kind_of}
use Rattle.causal_history.specs.Rows.{Row, history_of}
use Rattle.causal_history.proofs.AnswerFacts.{answers-kind}
use Rattle.causal_history.proofs.ListMore.{get-item}
use Rattle.causal_history.proofs.RowFacts.{answered-row, linked-at}
use Rattle.causal_history.proofs.history.History.answered.Goals as goal

pub returns-in-Some-default : goal.returns-in-Some-default
returns-in-Some-default c = λ m n.
    let k = linked-at c.self.inside.table.rows.items c.self.inside.table.links.items c.self.inside.table.numbers.items c.self.inside.table.ids.keys
    c.self.inside.table.senders.keys c.self.inside.table.named.keys c.self.inside.table.cards.items c.self.invariant
    c.args.index c.index-link.result.now m (get-item c.self.inside.table.links.items c.args.index c.index-link.result.now
    (omega (arith, c.requires, c.self.invariant.linked, ap length c.self.view_is)) c.index-link.ensures)
    (subst (λ (z : List Row). HasNumber (history_of z) c.args.index m) (sym c.self.view_is) n) in
    subst (λ (z : Message). (o : Message) × HasNumber (history_of c.args.self.now) c.into.result o × Answers z.kind o.id) (sym k.is)
    (subst (λ at. (o : Message) × HasNumber (history_of c.args.self.now) at o × Answers (kind_of k.header) o.id) (sym c.into.ensures)
    (answered-row c.self.inside.table.rows.items c.args.self.now c.self.view_is c.self.inside.table.ids.keys c.self.invariant.ids_are
    (kind_of k.header) c.in-Some-default.at (k.link.answered c.in-Some-default.at c.in-Some-default.is-0)))

pub returns-in_default : goal.returns-in_default
returns-in_default c = λ m n o i a.
    let k = linked-at c.self.inside.table.rows.items c.self.inside.table.links.items c.self.inside.table.numbers.items c.self.inside.table.ids.keys
    c.self.inside.table.senders.keys c.self.inside.table.named.keys c.self.inside.table.cards.items c.self.invariant
    c.args.index c.index-link.result.now m (get-item c.self.inside.table.links.items c.args.index c.index-link.result.now
    (omega (arith, c.requires, c.self.invariant.linked, ap length c.self.view_is)) c.index-link.ensures)
    (subst (λ (z : List Row). HasNumber (history_of z) c.args.index m) (sym c.self.view_is) n) in
    answers-kind k.header.kind k.header.target o.id (subst (λ (z : Message). Answers z.kind o.id) k.is a)
    (λ e. c.in_default.not-Ack-1 (k.link.kind ∙ e)) (λ e. c.in_default.not-AddAck-1 (k.link.kind ∙ e))
