use Rattle.std.proofs.Common.{◌≡◌, refl}
use Rattle.group_model.specs.Messages.{Message}
use Rattle.group_model.specs.Plain.{message_of}
use Rattle.group_model.proofs.Rows.{row-in, none-more}
use Rattle.group_model.proofs.plain.messages.stands.Goals as goal

pub returns-then-same : goal.returns-then-same
returns-then-same c = (
  λ _. record {
    by = message_of c.row-item.result;
    has_id = c.same.ensures.0 c.if-same.true;
    there_is = row-in c.args.rows.now c.loop-row.row-index c.row-item.result c.loop-row-test.true c.row-item.is;
  },
  λ _. refl,
)

pub loop-row-preserved : goal.loop-row-preserved
loop-row-preserved c = λ s. none-more (λ (a : Message). a.id ≡ c.args.id.now) c.args.rows.now c.loop-row.row-index c.row-item.result
    c.loop-row-test.true c.row-item.is (λ a j p. c.loop-row.invariant (record { by = a; there_is = j; has_id = p }))
    (λ n. let t = c.same.ensures.1 n in let f = c.if-same.false in cc) s.by s.there_is s.has_id
