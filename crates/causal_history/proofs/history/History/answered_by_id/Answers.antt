use Rattle.std.proofs.Common.{◌≡◌, MatchOption, sym, subst}
use Rattle.group_model.specs.Sets.{In}
use Rattle.group_model.specs.Messages.{Message}
use Rattle.group_model.specs.Marks.{HasNumber}
use Rattle.group_model.specs.Validity.{Answers}
use Rattle.group_model.proofs.Numbers.{number-one}
use Rattle.group_messages.specs.Messages.{kind_of, message_of}
use Rattle.causal_history.specs.Rows.{history_of}
use Rattle.causal_history.proofs.AnswerFacts.{by-find}
use Rattle.causal_history.proofs.history.History.answered_by_id.Goals as goal

pub returns-in-Some : goal.returns-in-Some
returns-in-Some c = λ m n.
    let e : m ≡ message_of c.row.result = number-one (history_of c.args.self.now) c.args.index m (message_of c.row.result) n c.row.ensures.message in
    subst (λ (z : Message). MatchOption c.find.result ((o : Message) → In o (history_of c.args.self.now) → Answers z.kind o.id → ⊥)
    (λ at. (o : Message) × HasNumber (history_of c.args.self.now) at o × Answers z.kind o.id)) (sym e)
    (by-find (history_of c.args.self.now) (kind_of c.row.result) c.in-Some.operation.0.0 c.find.result c.in-Some.ensures c.find.ensures.number)

pub returns-in-None : goal.returns-in-None
returns-in-None c = λ m n o i a.
    let e : m ≡ message_of c.row.result = number-one (history_of c.args.self.now) c.args.index m (message_of c.row.result) n c.row.ensures.message in
    c.in-None.ensures o.id (subst (λ (z : Message). Answers z.kind o.id) e a)
