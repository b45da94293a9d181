use Rattle.std.proofs.Common.{arith}
use Rattle.two_party.proofs.Places.{none-left, one-left}
use Rattle.two_party.proofs.draws.PartDraws.take.Goals as goal

pub returns-then-place-len-clause-draw : goal.returns-then-place-len-clause-draw
returns-then-place-len-clause-draw g c =
    (none-left c.args.self.now c.self.inside.rows.items c.as_slice.result.now c.args.to.now.0.0 c.place_of-place.result c.self.view_is c.as_slice.ensures.value c.place_of-place.ensures.place (omega arith)).0

pub returns-then-place-len-clause-left : goal.returns-then-place-len-clause-left
returns-then-place-len-clause-left g c =
    (none-left c.args.self.now c.self.inside.rows.items c.as_slice.result.now c.args.to.now.0.0 c.place_of-place.result c.self.view_is c.as_slice.ensures.value c.place_of-place.ensures.place (omega arith)).1

pub returns-clause-draw : goal.returns-clause-draw
returns-clause-draw g c =
    (one-left c.args.self.now c.self.inside.rows.items c.as_slice.result.now c.args.to.now.0.0 c.place_of-place.result c.index_mut.result.now c.take.new.self c.take.result
    c.self.view_is c.as_slice.ensures.value c.place_of-place.ensures.place (omega arith) c.index_mut.ensures.value c.take.ensures.value c.take.ensures.after).0

pub returns-clause-left : goal.returns-clause-left
returns-clause-left g c =
    (one-left c.args.self.now c.self.inside.rows.items c.as_slice.result.now c.args.to.now.0.0 c.place_of-place.result c.index_mut.result.now c.take.new.self c.take.result
    c.self.view_is c.as_slice.ensures.value c.place_of-place.ensures.place (omega arith) c.index_mut.ensures.value c.take.ensures.value c.take.ensures.after).1
