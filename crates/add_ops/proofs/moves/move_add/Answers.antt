use Rattle.std.proofs.Common.{ap, arith}
use Rattle.group_messages.specs.Messages.{message_of}
use Rattle.add_ops.proofs.AddMoves.{moves-add}
use Rattle.secret_book.specs.HeldBooks.{HeldBook}
use Rattle.add_ops.proofs.Forgotten.{same_places}
use Rattle.add_ops.proofs.moves.move_add.Goals as goal

pub keep_known-requires : goal.keep_known-requires
keep_known-requires g c =
    let same = same_places _ _ (ap (λ (b : HeldBook). b.met) c.step_by_welcome-welcome.ensures.book) in
    omega (arith, same, c.requires.target)

pub step_by_add-requires : goal.step_by_add-requires
step_by_add-requires g c =
    let same = same_places _ _ (ap (λ (b : HeldBook). b.met) c.step_by_welcome-welcome.ensures.book) in
    omega (arith, same, c.in_ok-keep_known.ensures.places, c.requires.sender)

pub returns : goal.returns
returns g c = λ O ids y state h place target.
    moves-add g.K.Kem O (message_of c.args.add.now) y ids c.args.place c.args.target place target state _ _ _ h
    (λ r x s stands l. c.calls_stand.ensures O ids r x s stands l)
    _ c.step_by_welcome-welcome.ensures.book _ c.step_by_welcome-welcome.ensures.secret _ c.id.ensures
    (λ stands l. c.in_ok-keep_known.ensures.stands O ids _ stands l) c.step_by_add.ensures.book _ c.step_by_add.ensures.secret
