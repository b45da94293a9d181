use Rattle.std.proofs.Common.{subst, sym, ◌∙◌, ap}
use Rattle.group_model.specs.Messages.{Add}
use Rattle.causal_history.specs.Rows.{history_of}
use Rattle.group_messages.specs.Messages.{message_of}
use Rattle.group_model.specs.Sets.{IsDistinct}
use Rattle.group_model.specs.Membership.{named_by}
use Rattle.member_view.specs.Crowds.{last_of}
use Rattle.member_view.proofs.Crowds.{place-before, place-added, missing-added}
use Rattle.member_view.proofs.places.place_with.Goals as goal

pub returns-in-Some-clause-place : goal.returns-in-Some-clause-place
returns-in-Some-clause-place c = place-before (history_of c.args.history.now) (last_of c.args.last) c.in-Some.place c.args.id.now.0.0 c.in-Some.ensures.place

pub place_among-requires-clause-distinct : goal.place_among-requires-clause-distinct
place_among-requires-clause-distinct c = subst (λ k. IsDistinct (named_by k)) (sym c.in-Create.ensures)
    (c.named_ids_are_few.ensures.distinct c.in_ok-header.header.now c.bytes-bytes.ensures.has)

pub returns-then-is_same-clause-place : goal.returns-then-is_same-clause-place
returns-then-is_same-clause-place c = rw c.in_ok-header.was (rw c.places.ensures.places
    (place-added (history_of c.args.history.now) (message_of c.in_ok-header.header.now) c.args.id.now.0.0
    (sym c.in-Add.ensures ∙ ap Add (c.is_same.ensures.0 c.if-is_same.true)) c.in_default.ensures.place))

pub returns-else-is_same-clause-place : goal.returns-else-is_same-clause-place
returns-else-is_same-clause-place c = rw c.in_ok-header.was
    (missing-added (history_of c.args.history.now) (message_of c.in_ok-header.header.now) c.args.id.now.0.0 c.in-Add.target.0.0
    (sym c.in-Add.ensures) c.in_default.ensures.place (λ e. let t = c.is_same.ensures.1 e in let f = c.if-is_same.false in cc))
