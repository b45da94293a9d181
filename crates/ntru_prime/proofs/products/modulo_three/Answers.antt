use Rattle.std.proofs.Common.{◌≡◌, pos, get_or, arith, rules, ap, ◌∙◌, SFits, to_z, of_z, w16}
use Rattle.std.proofs.lemmas.Int.{to_z-of_z}
use Rattle.ntru_model.specs.Residues.{centred}
use Rattle.ntru_prime.proofs.Loops.{map_step, map_end}
use Rattle.ntru_prime.proofs.products.modulo_three.Goals as goal

pub loop-i-preserved : goal.loop-i-preserved
loop-i-preserved c =
    let given : SFits w16 (get_or c.args.a.now c.loop-i.i (pos 0)) = search rules in
    let same : to_z w16 (of_z w16 (get_or c.args.a.now c.loop-i.i (pos 0))) ≡ get_or c.args.a.now c.loop-i.i (pos 0) = to_z-of_z w16 _ given in
    let fits : SFits w16 c.centre.result = search rules in
    map_step (centred 3) c.args.a.now c.loop-i.into c.loop-i.i (pos 0) _ (omega arith) (omega arith) c.loop-i.invariant (to_z-of_z w16 c.centre.result fits ∙ c.centre.ensures.exact ∙ ap (centred 3) same)

pub returns : goal.returns
returns c = map_end (centred 3) c.args.a.now c.loop-i.into c.loop-i.i (omega arith) (omega arith) c.loop-i.invariant
