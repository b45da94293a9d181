use Rattle.std.proofs.Common.{◌≡◌, ℕ, List, [], ◌++◌, length, get_or, refl, ap, ap₂, ◌∙◌, arith, pow_pos}
use Rattle.std.specs.Int.{w32, to_be_bytes}
use Rattle.lms_sign.specs.Trees.{lms_public}
use Rattle.lms_sign.proofs.Parsing.{key_filled}
use Rattle.lms_sign.proofs.Rising.{listed}
use Rattle.lms_sign.proofs.writing.public_of.Goals as goal

pub returns : goal.returns
unfolding lms_public
returns c =
    λ seed has.
    let id : List ℕ = c.args.identifier.now in
    let root : List ℕ = get_or c.args.nodes.now 1 [] in
    let four : length c.type_of.result ≡ 4 = ap length c.type_of.ensures in
    key_filled c.type_of.result (to_be_bytes w32 3) id root _ c.put.new.into c.put-2.new.into c.put-3.new.into c.put-4.new.into
    four refl c.told-identifier (c.told-nodes 1 c.requires) refl c.put.ensures c.put-2.ensures c.put-3.ensures c.put-4.ensures
    ∙ ap₂ (λ t r. t ++ to_be_bytes w32 3 ++ id ++ r) c.type_of.ensures
    (listed c.args.height id seed c.args.nodes.now has 1 (omega arith) (omega (arith, pow_pos c.args.height)))
