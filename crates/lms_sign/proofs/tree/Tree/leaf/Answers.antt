use Rattle.std.proofs.Common.{◌≡◌, ◌^◌, ◌∙◌, ap, sym, arith}
use Rattle.lms_sign.specs.Leaves.{leaves_of}
use Rattle.lms_sign.specs.Trees.{LmsTree, lms_public}
use Rattle.lms_sign.proofs.Parsing.{leaves_of_public}
use Rattle.lms_sign.proofs.tree.Tree.leaf.Goals as goal

pub new-requires : goal.new-requires
new-requires c =
    let tree : LmsTree = record { height = c.self.inside.height; id = c.self.inside.identifier; seed = c.self.inside.seed } in
    let leaves : leaves_of c.public.result ≡ 2 ^ c.self.inside.height =
    ap leaves_of c.public.ensures ∙ (ap (λ t. leaves_of (lms_public t)) (sym c.self.view_is) ∙ leaves_of_public tree c.self.invariant.is_height) in
    omega (arith, leaves, c.leaves_in.ensures.value)
