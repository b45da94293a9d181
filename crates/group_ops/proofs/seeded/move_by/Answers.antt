use Rattle.std.proofs.Common.{◌∙◌, ap, arith}
use Rattle.causal_history.specs.Bits.{bit}
use Rattle.causal_history.specs.Rows.{history_of}
use Rattle.group_fields.specs.declared.ids.MemberId.{MemberId}
use Rattle.group_keys.specs.Primitives.{primitives_of}
use Rattle.group_messages.specs.Messages.{message_of}
use Rattle.group_model.specs.KeyTerms.{member_secret}
use Rattle.group_model.specs.Membership.{ids_named, named_by}
use Rattle.group_ops.proofs.Crowds.{joined-few}
use Rattle.group_ops.proofs.Moves.{moves-known}
use Rattle.group_ops.proofs.seeded.move_by.Goals as goal

pub returns : goal.returns
returns g c = λ O state rule h.
    let H = history_of c.args.history.now in let m = message_of c.args.op.now in
    let few = joined-few (ids_named H) (named_by m.kind) in
    let own = c.named_ids_are_few.ensures.few c.args.op.now c.bytes-bytes.ensures.has in
    moves-known g.K.Kem O g.G.Membership.rule g.G.Membership.is_rule rule H m
    (c.requires.stand, c.requires.new, c.count-kept.ensures.kept.history)
    (omega (arith, few, own, c.count-kept.ensures.kept.members)) (bit c.recipients-crowd.result.0) c.recipients-crowd.ensures
    (λ ids q x t s lt. c.calls_stand.ensures O ids q x t s lt) c.places_serve.ensures.keeps c.args.seed.now c.args.place c.requires.sender
    state _ _ _ h c.in_ok-keep_answers.ensures.kept c.secret_of-input.result
    (c.secret_of-input.ensures
    ∙ ap (λ (s : MemberId). member_secret (primitives_of g.K.Kem) c.args.seed.now s.0.0) c.sender.ensures) _
    c.step_by.ensures.secret c.step_by.ensures.book
