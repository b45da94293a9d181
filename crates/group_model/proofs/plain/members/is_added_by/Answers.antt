use Rattle.std.proofs.Common.{◌≡◌, refl}
use Rattle.group_model.specs.Messages.{Add, Message}
use Rattle.group_model.specs.Plain.{message_of}
use Rattle.group_model.proofs.Rows.{row-in, none-more}
use Rattle.group_model.proofs.plain.members.is_added_by.Goals as goal

pub returns-then-is_add_of : goal.returns-then-is_add_of
returns-then-is_add_of c = (
  λ _. let k = c.is_add_of.ensures.0 c.if-is_add_of.true in record {
    operation = message_of c.row-item.result;
    has_id = k.0;
    adds = k.1;
    there_is = row-in c.args.rows.now c.loop-row.row-index c.row-item.result c.loop-row-test.true c.row-item.is;
  },
  λ _. refl,
)

pub loop-row-preserved : goal.loop-row-preserved
loop-row-preserved c = λ s. none-more (λ (a : Message). (a.id ≡ c.args.of.now) × (a.kind ≡ Add c.args.id.now))
    c.args.rows.now c.loop-row.row-index c.row-item.result c.loop-row-test.true c.row-item.is
    (λ a j p. c.loop-row.invariant (record { operation = a; there_is = j; has_id = p.0; adds = p.1 }))
    (λ n. let t = c.is_add_of.ensures.1 n in let f = c.if-is_add_of.false in cc) s.operation s.there_is (s.has_id, s.adds)
