use Rattle.std.proofs.Common.{rules}
use Rattle.std.specs.Prelude.{IsTrue}
use Rattle.secret_book.specs.HeldBooks.{held}
use Rattle.body_parts.specs.Sending.{CanReach}
use Rattle.forwarding.proofs.tests.opens.Goals as goal

pub open_from-requires-clause-met : goal.open_from-requires-clause-met
unfolding held
open_from-requires-clause-met c =
    let yes : IsTrue c.can_reach.result = search rules in
    let reach : CanReach (held c.args.book.now) 1 = c.can_reach.ensures.0 yes in
    reach.met
