use Rattle.std.proofs.Common.{List, subst}
use Rattle.std.proofs.lemmas.Option.{slice_get_within}
use Rattle.causal_history.specs.Rows.{history_of}
use Rattle.group_messages.specs.Messages.{message_of}
use Rattle.group_model.specs.Marks.{IsPlace}
use Rattle.group_model.specs.Membership.{ids_named}
use Rattle.group_model.specs.Sets.{Id}
use Rattle.add_ops.proofs.AddMoves.{answer-names, takes-add-ack}
use Rattle.add_ops.proofs.answering.take_add_ack.Goals as goal

pub returns : goal.returns
returns g c = λ O state h i kind.
    let H = history_of c.args.history.now in let m = message_of c.args.answer.now in let p = c.sender_place-place.result in
    let place = subst (λ (z : List Id). IsPlace z p m.sender) (answer-names H m i kind) c.sender_place-place.ensures.place in
    let within = slice_get_within (ids_named H) p m.sender place in
    takes-add-ack g.K.Kem O H m p place i _ state c.in_ok-opened.opened _ _ _
    (c.in_ok-opened.ensures.opened O (ids_named H) state h within)
    (λ s stands l. c.hand_ratchet.ensures.stands O (ids_named H) s stands l)
    (λ s stands. c.calls_stand.ensures O (ids_named H) p _ s stands within)
    c.step_by_add.ensures.book _ c.step_by_add.ensures.secret
