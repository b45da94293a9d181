use Rattle.add_ops.proofs.AddBody.{receiver_is}
use Rattle.add_ops.proofs.adding.receiver_of.Goals as goal

pub returns : goal.returns
returns c = receiver_is c.args.history.now c.args.card.now c.places.result c.id.result c.places.ensures.places c.id.ensures
