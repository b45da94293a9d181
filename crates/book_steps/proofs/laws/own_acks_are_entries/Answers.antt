use Rattle.book_steps.proofs.OwnAcks.{spending-makes, steps-make}
use Rattle.book_steps.proofs.laws.own_acks_are_entries.Goals as goal

pub returns-clause-took : goal.returns-clause-took
returns-clause-took g c = λ O h p t to state i kind own sealed.
    steps-make O h p t to state i g.K.Kem c.calls_make_the_book.ensures.spends kind own sealed

pub returns-clause-without : goal.returns-clause-without
returns-clause-without g c = λ O h p t to state i kind own sealed. spending-makes O h p t to state i g.K.Kem kind own sealed
