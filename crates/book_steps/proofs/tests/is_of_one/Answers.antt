use Rattle.std.proofs.Common.{arith, subst}
use Rattle.causal_history.specs.Rows.{history_of}
use Rattle.group_fields.specs.declared.ids.MemberId.{MemberId}
use Rattle.group_messages.specs.Messages.{message_of}
use Rattle.group_model.specs.Marks.{IsPlace}
use Rattle.group_model.specs.Membership.{ids_named}
use Rattle.group_model.specs.Messages.{Message}
use Rattle.group_model.specs.Sets.{In}
use Rattle.group_model.proofs.Places.{place-in}
use Rattle.book_steps.proofs.TestFacts.{only-one}
use Rattle.book_steps.proofs.tests.is_of_one.Goals as goal

pub returns-in-Some : goal.returns-in-Some
returns-in-Some c = λ t m i.
    let h = history_of c.args.history.now in
    let size = c.rows_are_messages.ensures.size c.args.history.now in let count = c.count.ensures.count in
    subst (λ (n : Message). In n.sender (ids_named h))
    (only-one h (message_of c.row.result) (omega (arith, size, count, c.if-count-ne1.false)) c.row.ensures.message m i)
    (place-in (ids_named h) _ _ (subst (λ (s : MemberId). IsPlace (ids_named h) c.in-Some.field-0 s.0.0) c.sender.ensures c.in-Some.ensures.place))
