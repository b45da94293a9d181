use Rattle.std.proofs.Common.{◌≡◌, Some}
use Rattle.two_party.specs.Drawn.{left_for}
use Rattle.secret_book.specs.HeldBooks.{held}
use Rattle.body_parts.specs.Receivers.{id_to}
use Rattle.body_parts.proofs.Each.{sealed_for}
use Rattle.body_parts.proofs.parts.seal_for.Goals as goal

pub seal_to-requires-clause-met : goal.seal_to-requires-clause-met
unfolding held
seal_to-requires-clause-met g c = c.requires.reach.met

pub returns-clause-sealed : goal.returns-clause-sealed
returns-clause-sealed g c =
    let left : left_for c.args.draws.now (id_to c.args.to.now) ≡ Some c.unwrap-draw.result = cc in
    sealed_for g.K.Kem c.made_parts_have_sizes.ensures c.args.to.now c.args.payload.now c.args.draws.now (held c.args.book.now)
    (held c.seal_to.new.self) c.unwrap-draw.result c.seal_to.result left c.seal_to.ensures.part c.seal_to.ensures.sent c.seal_to.ensures.number
