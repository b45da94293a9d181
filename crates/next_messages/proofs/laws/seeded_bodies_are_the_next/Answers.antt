use Rattle.next_messages.proofs.Seeded.{seeded-body}
use Rattle.next_messages.proofs.laws.seeded_bodies_are_the_next.Goals as goal

pub returns : goal.returns
returns g c = λ rule M t kept.
    seeded-body g.K.Kem rule M t c.the_book_carries_what_is_sent.ensures.sends c.the_book_carries_what_is_sent.ensures.parts kept
