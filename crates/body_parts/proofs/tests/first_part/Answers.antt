use Rattle.std.proofs.Common.{rules}
use Rattle.std.specs.Prelude.{IsTrue}
use Rattle.group_model.specs.Sets.{here}
use Rattle.body_parts.proofs.tests.first_part.Goals as goal

pub append_part-requires : goal.append_part-requires
append_part-requires c =
    let yes : IsTrue c.can_reach.result = search rules in
    record { reach = c.can_reach.ensures.0 yes; draw = c.in_ok-draws.ensures.left _ here }
