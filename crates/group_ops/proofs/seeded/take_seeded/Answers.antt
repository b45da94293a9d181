use Rattle.std.proofs.Common.{◌∷◌}
use Rattle.std.proofs.lemmas.Option.{slice_get_within}
use Rattle.causal_history.specs.Rows.{history_of}
use Rattle.group_messages.specs.Messages.{message_of}
use Rattle.group_model.specs.Membership.{ids_named}
use Rattle.group_ops.proofs.Moves.{opened-stands, takes-seeded}
use Rattle.group_ops.proofs.seeded.take_seeded.Goals as goal

pub returns : goal.returns
returns g c = λ O state rule h.
    let H = history_of c.args.history.now in let m = message_of c.args.op.now in let p = c.sender_place-place.result in
    let place = c.sender_place-place.ensures.place in
    let opens = c.in_ok-opened.ensures.opened O (ids_named (m ∷ H)) state h (slice_get_within (ids_named (m ∷ H)) p m.sender place) in
    let moves = c.in_ok-learned.ensures O _ rule (opened-stands g.K.Kem O m (ids_named (m ∷ H)) p place _ _ state _ opens) in
    takes-seeded g.K.Kem O H m p place _ _ c.in_ok-opened.opened state _ _ opens c.is_some.result c.in_ok-learned.learned c.is_some.ensures
    c.seed_of-seed.result c.seed_of-seed.ensures moves
