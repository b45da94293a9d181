use Rattle.std.proofs.Common.{◌≡◌, ℕ, List, ◌/◌, ◌^◌, refl, sym, ap, ap₂, ◌∙◌, arith}
use Rattle.lms_sign.specs.Signatures.{climbed, parent_of}
use Rattle.lms_sign.proofs.NodeLists.{climbed_next}
use Rattle.lms_sign.proofs.nodes.climbed.Goals as goal

pub levels-init : goal.levels-init
unfolding climbed
levels-init c = refl

pub levels-preserved : goal.levels-preserved
levels-preserved c =
    let id : List ℕ = c.args.identifier.now in
    let number : ℕ = c.args.number in
    let path : List ℕ = c.args.path.now in
    let level : ℕ = c.levels.level in
    c.parent_of-node.ensures
    ∙ (ap₂ (λ own sibling. parent_of id (number / 2 ^ level) own sibling) c.levels.invariant c.element_at-sibling.ensures
    ∙ sym (climbed_next id number c.args.leaf.now path level))

pub returns : goal.returns
returns c =
    let all : c.levels.level ≡ c.args.levels = omega arith in
    c.levels.invariant ∙ ap (climbed c.args.identifier.now c.args.number c.args.leaf.now c.args.path.now) all
