use Rattle.std.proofs.Common.{rules, IsSome, subst}
use Rattle.std.specs.Prelude.{IsTrue}
use Rattle.group_model.specs.Sets.{Id, here}
use Rattle.secret_book.specs.HeldBooks.{held}
use Rattle.two_party.specs.Drawn.{left_for}
use Rattle.body_parts.specs.Sending.{CanReach}
use Rattle.add_ops.proofs.tests.adding.added.Goals as goal

pub make_add-requires-clause-can : goal.make_add-requires-clause-can
make_add-requires-clause-can c =
    let yes : IsTrue c.can_reach.result = search rules in
    record {
      reach = subst (CanReach (held c.args.book.now)) c.places.ensures.places (c.can_reach.ensures.0 yes);
      draw = subst (λ (x : Id). IsSome (left_for c.in_ok-draws.draws x)) c.id.ensures (c.in_ok-draws.ensures.left _ here);
    }
