use Rattle.std.proofs.Common.{◌≡◌, refl}
use Rattle.group_model.specs.Messages.{Message}
use Rattle.group_model.specs.Validity.{Answers}
use Rattle.group_model.specs.Plain.{message_of}
use Rattle.group_model.proofs.Rows.{row-in, none-more}
use Rattle.group_model.proofs.plain.validity.has_answered.Goals as goal

pub returns-then-is_answer : goal.returns-then-is_answer
returns-then-is_answer c = (
  λ _. let k = c.is_answer.ensures.0 c.if-is_answer.true in record {
    by = message_of c.row-item.result;
    own = k.0;
    answers = k.1;
    there_is = row-in c.args.rows.now c.loop-row.row-index c.row-item.result c.loop-row-test.true c.row-item.is;
  },
  λ _. refl,
)

pub loop-row-preserved : goal.loop-row-preserved
loop-row-preserved c = λ s. none-more (λ (a : Message). (a.sender ≡ c.args.sender.now) × Answers a.kind c.args.operation.now)
    c.args.rows.now c.loop-row.row-index c.row-item.result c.loop-row-test.true c.row-item.is
    (λ a j p. c.loop-row.invariant (record { by = a; there_is = j; own = p.0; answers = p.1 }))
    (λ n. let t = c.is_answer.ensures.1 n in let f = c.if-is_answer.false in cc) s.by s.there_is (s.own, s.answers)
