use Rattle.member_view.proofs.places.with_named.Goals as goal

pub returns-in-Create : goal.returns-in-Create
returns-in-Create c = rw c.in-Create.is c.with_ids.ensures
