use Rattle.std.proofs.lemmas.Option.{slice_get_within}
use Rattle.secret_book.specs.HeldBooks.{held}
use Rattle.book_steps.proofs.OwnAcks.{spends-own}
use Rattle.book_steps.proofs.own_acks.own_secret.Goals as goal

pub returns-clause-spends : goal.returns-clause-spends
returns-clause-spends g c = λ O ids state stands place.
    let before = held c.args.book.now in
    spends-own g.K.Kem O ids c.args.me place before _ state
    (c.calls_stand.ensures O ids c.args.me before state stands (slice_get_within ids c.args.me O.id place)) c.args.operation.now.0.0
    c.spend.result c.spend.ensures.secret c.spend.ensures.spent
