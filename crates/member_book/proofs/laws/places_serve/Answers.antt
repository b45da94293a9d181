use Rattle.member_book.proofs.Places.{places_serve, meet_serves, keeps_each}
use Rattle.member_book.proofs.laws.places_serve.Goals as goal

pub returns-clause-calls : goal.returns-clause-calls
returns-clause-calls c = places_serve

pub returns-clause-meets : goal.returns-clause-meets
returns-clause-meets c = meet_serves

pub returns-clause-keeps : goal.returns-clause-keeps
returns-clause-keeps c = keeps_each
