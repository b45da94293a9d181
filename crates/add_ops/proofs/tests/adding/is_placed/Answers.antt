use Rattle.group_model.proofs.Places.{place-in}
use Rattle.add_ops.proofs.tests.adding.is_placed.Goals as goal

pub returns-in-Some : goal.returns-in-Some
returns-in-Some c = λ t. place-in _ _ _ (rw c.sender.ensures at c.in-Some.ensures.place)
