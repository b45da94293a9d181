use Rattle.std.proofs.Common.{◌≡◌, refl}
use Rattle.group_model.specs.Messages.{Message}
use Rattle.group_model.specs.Validity.{StepsRatchet}
use Rattle.group_model.specs.Plain.{message_of}
use Rattle.group_model.proofs.Rows.{row-in, none-more}
use Rattle.group_model.proofs.plain.validity.has_stepped.Goals as goal

pub returns-then-is_own_step : goal.returns-then-is_own_step
returns-then-is_own_step c = (
  λ _. let k = c.is_own_step.ensures.0 c.if-is_own_step.true in record {
    by = message_of c.row-item.result;
    own = k.0;
    steps = k.1;
    there_is = row-in c.args.rows.now c.loop-row.row-index c.row-item.result c.loop-row-test.true c.row-item.is;
  },
  λ _. refl,
)

pub loop-row-preserved : goal.loop-row-preserved
loop-row-preserved c = λ s. none-more (λ (a : Message). (a.sender ≡ c.args.sender.now) × StepsRatchet a.kind)
    c.args.rows.now c.loop-row.row-index c.row-item.result c.loop-row-test.true c.row-item.is
    (λ a j p. c.loop-row.invariant (record { by = a; there_is = j; own = p.0; steps = p.1 }))
    (λ n. let t = c.is_own_step.ensures.1 n in let f = c.if-is_own_step.false in cc) s.by s.there_is (s.own, s.steps)
