use Rattle.std.proofs.lemmas.Option.{slice_get_within}
use Rattle.secret_book.specs.HeldBooks.{held}
use Rattle.book_steps.proofs.OwnAcks.{steps-own}
use Rattle.book_steps.proofs.own_acks.step_own_ack.Goals as goal

pub returns : goal.returns
returns g c = λ O ids state stands place.
    let before = held c.args.book.now in
    steps-own g.K.Kem O ids c.args.me place before _ state
    (c.calls_stand.ensures O ids c.args.me before state stands (slice_get_within ids c.args.me O.id place)) _
    c.step_by.result c.step_by.ensures.secret c.step_by.ensures.book
