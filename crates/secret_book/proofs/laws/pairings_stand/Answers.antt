use Rattle.secret_book.proofs.Serving.{start-stands, meet-stands, own-stands, send-stands, open-stands, refused-stays}
use Rattle.secret_book.proofs.laws.pairings_stand.Goals as goal

pub returns-clause-starts : goal.returns-clause-starts
returns-clause-starts g c = λ card keys es. start-stands card keys es

pub returns-clause-meets : goal.returns-clause-meets
returns-clause-meets g c = λ card keys es. meet-stands card keys es

pub returns-clause-own_place : goal.returns-clause-own_place
returns-clause-own_place g c = λ card keys es. own-stands card keys es

pub returns-clause-sends : goal.returns-clause-sends
returns-clause-sends g c = λ card keys es. send-stands card keys es

pub returns-clause-opens : goal.returns-clause-opens
returns-clause-opens g c = λ card keys es. open-stands card keys es g.K.Kem

pub returns-clause-refused : goal.returns-clause-refused
returns-clause-refused g c = refused-stays g.K.Kem
