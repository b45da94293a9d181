use Rattle.std.proofs.Common.{◌≡◌, ◌^◌, ◌∙◌, ap, sym, arith}
use Rattle.lms_sign.specs.Leaves.{leaves_of}
use Rattle.lms_sign.specs.Trees.{LmsTree, lms_public}
use Rattle.lms_sign.proofs.Parsing.{leaves_of_public}
use Rattle.lms_sign.proofs.tree.Tree.sign.Goals as goal

pub write_signature-requires-clause-number : goal.write_signature-requires-clause-number
write_signature-requires-clause-number c =
    let tree : LmsTree = record { height = c.self.inside.height; id = c.self.inside.identifier; seed = c.self.inside.seed } in
    let leaves : leaves_of c.args.leaf.public ≡ 2 ^ c.self.inside.height =
    ap leaves_of c.requires.same_key ∙ (ap (λ t. leaves_of (lms_public t)) (sym c.self.view_is) ∙ leaves_of_public tree c.self.invariant.is_height) in
    omega (arith, leaves, c.spend-q.ensures.within)
