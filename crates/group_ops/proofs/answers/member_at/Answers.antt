use Rattle.std.proofs.Common.{◌≡◌, ℕ, Some, List, ap, arith, length, subst, sym}
use Rattle.std.specs.Prelude.{slice_get}
use Rattle.causal_history.specs.Rows.{history_of}
use Rattle.group_messages.specs.Messages.{message_of}
use Rattle.group_model.specs.Marks.{IsPlace}
use Rattle.group_model.specs.Sets.{Id}
use Rattle.member_view.proofs.Crowds.{id-at, ids-length}
use Rattle.group_ops.proofs.Crowds.{created-place}
use Rattle.group_ops.proofs.answers.member_at.Goals as goal

pub id-requires : goal.id-requires
id-requires c =
    let h = history_of c.args.history.now in let m = message_of c.args.op.now in
    let same = ap length (created-place h m c.args.place c.in-Create.ids c.requires.names
    (c.named_ids_are_few.ensures.distinct c.args.op.now c.bytes-bytes.ensures.has) c.requires.within
    (λ l. absurd (omega (arith, l, c.if-place-places.false, c.places.ensures.places))) c.in-Create.ensures) in
    let long = ids-length c.in-Create.ids in
    omega (arith, c.requires.within, same, long, c.into.ensures)

pub returns : goal.returns
returns c =
    let h = history_of c.args.history.now in let m = message_of c.args.op.now in
    subst (λ (z : List Id). IsPlace z c.args.place c.id.result.0) (sym (created-place h m c.args.place c.in-Create.ids c.requires.names
    (c.named_ids_are_few.ensures.distinct c.args.op.now c.bytes-bytes.ensures.has) c.requires.within
    (λ l. absurd (omega (arith, l, c.if-place-places.false, c.places.ensures.places))) c.in-Create.ensures))
    (id-at c.in-Create.ids c.args.place c.id.result
    (subst (λ (n : ℕ). slice_get c.in-Create.ids n ≡ Some c.id.result) c.into.ensures c.id.ensures))
