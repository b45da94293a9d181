use Rattle.std.proofs.Common.{subst, sym}
use Rattle.std.proofs.lemmas.Option.{slice_get_within}
use Rattle.causal_history.specs.Rows.{history_of}
use Rattle.group_fields.specs.declared.ids.MemberId.{MemberId}
use Rattle.group_messages.specs.Messages.{message_of}
use Rattle.group_model.specs.Marks.{IsPlace}
use Rattle.group_model.specs.Membership.{ids_named}
use Rattle.group_model.specs.Messages.{Message}
use Rattle.group_model.specs.Sets.{In}
use Rattle.group_model.proofs.Numbers.{number-in, number-one}
use Rattle.add_ops.proofs.joining.row_place.Goals as goal

pub unreachable-requires : goal.unreachable-requires
unreachable-requires c =
    let h = history_of c.args.history.now in
    c.in-None.ensures.place (subst (λ (s : MemberId). In s.0.0 (ids_named h)) (sym c.sender.ensures)
    (c.requires.senders (message_of c.row.result) (number-in h _ _ c.row.ensures.message)))

pub returns-clause-place : goal.returns-clause-place
returns-clause-place c = λ m n.
    let h = history_of c.args.history.now in
    subst (λ (z : Message). IsPlace (ids_named h) c.in-Some.place z.sender)
    (number-one h c.args.index (message_of c.row.result) m c.row.ensures.message n)
    (subst (λ (s : MemberId). IsPlace (ids_named h) c.in-Some.place s.0.0) c.sender.ensures c.in-Some.ensures.place)

pub returns-clause-within : goal.returns-clause-within
returns-clause-within c = slice_get_within (ids_named (history_of c.args.history.now)) c.in-Some.place _ c.in-Some.ensures.place
