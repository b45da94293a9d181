use Rattle.std.proofs.Common.{◌≡◌, ℕ, ◌-◌, ◌≤◌, ◌*◌, length, [], get_or}
use Rattle.lms_sign.specs.Nodes.{AreInner}
use Rattle.lms_sign.proofs.nodes.fill_inner.Given as goal

abbrev pub invariant-inner : goal.invariant-inner
invariant-inner l =
    (length l.nodes ≡ 2 * l.leaves)
    × ((k : ℕ) → l.leaves ≤ k → get_or l.nodes k [] ≡ get_or l.initial.nodes k [])
    × AreInner l.identifier l.leaves (l.leaves - l.done) l.nodes
