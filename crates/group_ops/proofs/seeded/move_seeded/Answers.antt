use Rattle.std.proofs.Common.{◌∷◌}
use Rattle.std.proofs.lemmas.Option.{slice_get_within}
use Rattle.causal_history.specs.Rows.{history_of}
use Rattle.group_messages.specs.Messages.{message_of}
use Rattle.group_model.specs.Membership.{ids_named}
use Rattle.group_ops.proofs.Moves.{moves-unseeded}
use Rattle.group_ops.proofs.seeded.move_seeded.Goals as goal

pub returns-in-None : goal.returns-in-None
returns-in-None g c = λ O state rule h.
    let H = history_of c.args.history.now in let m = message_of c.args.op.now in
    rw c.in-None.is (moves-unseeded g.K.Kem O H m c.args.place c.requires.sender state _ _
    (c.calls_stand.ensures O (ids_named (m ∷ H)) c.args.place _ state h
    (slice_get_within (ids_named (m ∷ H)) c.args.place m.sender c.requires.sender)) _ c.step_by.ensures.secret c.step_by.ensures.book)
