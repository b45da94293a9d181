use Rattle.std.proofs.Common.{◌≡◌, refl}
use Rattle.group_model.specs.Messages.{Message}
use Rattle.group_model.specs.Plain.{message_of, history_of, Forwards}
use Rattle.group_model.proofs.Rows.{row-in, rows-end, none-more}
use Rattle.group_model.proofs.plain.members.is_forwarded_to.Goals as goal

pub returns-then-found : goal.returns-then-found
returns-then-found c = (
  λ _. let k = c.in_ok-found.ensures.0 c.if-found.true in record {
    operation = message_of c.row-item.result;
    has_id = k.0;
    seeded = k.1.seeded;
    in_view = k.1.in_view;
    no_recipient = k.1.no_recipient;
    not_its_sender = k.1.not_its_sender;
    other = k.1.other;
    there_is = row-in c.args.rows.now c.loop-row.row-index c.row-item.result c.loop-row-test.true c.row-item.is;
  },
  λ _. refl,
)

pub loop-row-preserved : goal.loop-row-preserved
loop-row-preserved c = none-more
    (λ (a : Message). (a.id ≡ c.args.of.now) × Forwards (history_of c.args.rows.now) a (message_of c.args.answer.now) c.args.id.now)
    c.args.rows.now c.loop-row.row-index c.row-item.result c.loop-row-test.true c.row-item.is c.loop-row.invariant
    (λ n. let t = c.in_ok-found.ensures.1 n in let f = c.if-found.false in cc)

pub returns : goal.returns
returns c = (
  λ h. cc,
  λ s. absurd (c.loop-row.invariant s.operation
      (rows-end c.args.rows.now c.loop-row.row-index c.loop-row-test.false s.there_is) (
        s.has_id,
        record {
          seeded = s.seeded;
          in_view = s.in_view;
          no_recipient = s.no_recipient;
          not_its_sender = s.not_its_sender;
          other = s.other;
        },
      )),
)
