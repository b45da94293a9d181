use Rattle.std.proofs.Common.{◌≡◌, ◌≢◌, ℕ, List, [], ◌-◌, ◌+◌, ◌*◌, length, ◌∙◌, arith, length-set, get_or-set_other}
use Rattle.lms_sign.proofs.NodeLists.{inner_more}
use Rattle.lms_sign.proofs.nodes.fill_inner.Goals as goal

pub inner-preserved : goal.inner-preserved
inner-preserved c =
    let place : ℕ = c.args.leaves - c.inner.done in
    let nodes : List (List ℕ) = c.inner.nodes in
    let value : List ℕ = c.inner_node.result in
    let count : length nodes ≡ 2 * c.args.leaves = c.inner.invariant.0 in (
      length-set nodes place value ∙ count,
      (λ k high. let other : k ≢ place = (λ e. omega arith) in get_or-set_other nodes place k value [] other ∙ c.inner.invariant.1 k high),
      inner_more c.args.identifier.now c.args.leaves place (c.args.leaves - (c.inner.done + 1)) nodes value (omega arith) (omega arith) (omega arith)
          c.inner.invariant.2 c.inner_node.ensures,
    )
