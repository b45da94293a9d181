use Rattle.std.proofs.Common.{◌≢◌, refl, inl, inr}
use Rattle.group_model.specs.Messages.{Message}
use Rattle.group_model.specs.Validity.{IsUnanswered}
use Rattle.group_model.specs.Plain.{message_of, history_of}
use Rattle.group_model.proofs.Views.{same_or_not}
use Rattle.group_model.proofs.Rows.{row-in, rows-end, none-more}
use Rattle.group_model.proofs.plain.validity.answers_no_other.Goals as goal

pub returns-then-another : goal.returns-then-another
returns-then-another c = λ g.
    let i = row-in c.args.rows.now c.loop-row.row-index c.row-item.result c.loop-row-test.true c.row-item.is in
    let k = (c.in_ok-another.ensures g i).0 c.if-another.true in
    (λ h. cc, λ n. absurd (k.1 (n (message_of c.row-item.result) k.0)))

pub loop-row-preserved : goal.loop-row-preserved
loop-row-preserved c = λ g.
    let i = row-in c.args.rows.now c.loop-row.row-index c.row-item.result c.loop-row-test.true c.row-item.is in
    none-more (λ (a : Message). IsUnanswered (history_of c.args.rows.now) c.args.member.now a × (a.id ≢ c.args.id.now))
    c.args.rows.now c.loop-row.row-index c.row-item.result c.loop-row-test.true c.row-item.is (c.loop-row.invariant g)
    (λ n. let t = (c.in_ok-another.ensures g i).1 n in let f = c.if-another.false in cc)

pub returns : goal.returns
returns c = λ g. (
  λ h o u. elim (same_or_not o.id c.args.id.now) [
    | inl e ↦ e
    | inr n ↦ absurd (c.loop-row.invariant g o (rows-end c.args.rows.now c.loop-row.row-index c.loop-row-test.false u.there_is) (u, n))
  ],
  λ n. refl,
)
