use Rattle.std.proofs.Common.{◌≡◌, ℕ, ◌+◌, ◌<◌, [], get_or}
use Rattle.lms_ots.specs.OneTime.{one_time_public}
use Rattle.lms_sign.specs.Trees.{leaf_node}
use Rattle.lms_sign.proofs.nodes.fill_leaves.Given as goal

abbrev pub invariant-leaves : goal.invariant-leaves
invariant-leaves l =
    (q : ℕ) → q < l.q → get_or l.nodes (l.leaves + q) [] ≡ leaf_node l.identifier (l.leaves + q) (one_time_public l.identifier q l.seed)
