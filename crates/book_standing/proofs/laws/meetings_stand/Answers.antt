use Rattle.std.proofs.Common.{refl}
use Rattle.book_standing.proofs.Meetings.{start_stands, meets, own}
use Rattle.book_standing.proofs.laws.meetings_stand.Goals as goal

pub returns-clause-starts : goal.returns-clause-starts
returns-clause-starts g c = λ O. start_stands g.K.Kem O c.pairings_stand.ensures.starts

pub returns-clause-meets : goal.returns-clause-meets
returns-clause-meets g c = λ O ids i b state h new.
    meets g.K.Kem O ids i b state h new c.places_serve.ensures.meets c.a_book_serves_places.ensures c.pairings_stand.ensures.meets

pub returns-clause-own : goal.returns-clause-own
returns-clause-own g c = λ O ids b state h new.
    own g.K.Kem O ids O.id b state h new c.places_serve.ensures.meets c.a_book_serves_places.ensures refl
    c.pairings_stand.ensures.own_place
