use Rattle.std.proofs.Common.{◌∙◌, List, subst, sym}
use Rattle.std.proofs.lemmas.Option.{slice_get_within}
use Rattle.causal_history.specs.Rows.{history_of}
use Rattle.group_messages.specs.Messages.{message_of}
use Rattle.group_model.specs.Marks.{IsPlace}
use Rattle.group_model.specs.Membership.{ids_named}
use Rattle.group_model.specs.Sets.{Id}
use Rattle.group_ops.proofs.Crowds.{ack-names}
use Rattle.group_ops.proofs.Moves.{ack-same, takes-ack}
use Rattle.group_ops.proofs.acks.take_ack.Goals as goal

pub returns : goal.returns
returns g c = λ O state h i took kind.
    let H = history_of c.args.history.now in let m = message_of c.args.answer.now in let p = c.sender_place-place.result in
    let place = subst (λ (z : List Id). IsPlace z p m.sender) (ack-names H m c.requires.ack) c.sender_place-place.ensures.place in
    let within = slice_get_within (ids_named H) p m.sender place in
    ack-same g.K.Kem O H m c.in-Ack.operation.0.0 i c.in-Ack.took took _ state _ _ (c.in-Ack.ensures ∙ kind)
    (takes-ack g.K.Kem O H m p place c.in-Ack.operation.0.0 c.in-Ack.took (sym c.in-Ack.ensures) _ state c.in_ok-forwarded.forwarded _ _
    (c.in_ok-forwarded.ensures.opened O (ids_named H) state h within) within
    (λ x t s. c.calls_stand.ensures O (ids_named H) p x t s within) _ c.spend_answer.ensures.learned c.spend_answer.ensures.book)
