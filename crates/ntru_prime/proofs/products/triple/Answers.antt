use Rattle.std.proofs.Common.{◌≡◌, pos, ◌*ℤ◌, get_or, arith, rules, ap, sym, subst, ◌∙◌, SFits, to_z, of_z, w16}
use Rattle.std.proofs.lemmas.Int.{to_z-of_z}
use Rattle.std.proofs.lemmas.List.Elements.{All-get_or}
use Rattle.ntru_codec.specs.Small.{IsSmall}
use Rattle.ntru_prime.proofs.Loops.{map_step, map_end}
use Rattle.ntru_prime.proofs.products.triple.Goals as goal

pub three_times-requires : goal.three_times-requires
three_times-requires c =
    let fits : SFits w16 (get_or c.args.a.now c.loop-i.i (pos 0)) = search rules in
    subst IsSmall (sym (to_z-of_z w16 (get_or c.args.a.now c.loop-i.i (pos 0)) fits)) (All-get_or IsSmall c.args.a.now c.loop-i.i (pos 0) (omega arith) c.requires.small)

pub loop-i-preserved : goal.loop-i-preserved
loop-i-preserved c =
    let given : SFits w16 (get_or c.args.a.now c.loop-i.i (pos 0)) = search rules in
    let same : to_z w16 (of_z w16 (get_or c.args.a.now c.loop-i.i (pos 0))) ≡ get_or c.args.a.now c.loop-i.i (pos 0) = to_z-of_z w16 _ given in
    let fits : SFits w16 c.three_times.result = search rules in
    map_step (λ d. pos 3 *ℤ d) c.args.a.now c.loop-i.into c.loop-i.i (pos 0) _ (omega arith) (omega arith) c.loop-i.invariant (to_z-of_z w16 c.three_times.result fits ∙ c.three_times.ensures ∙ ap (λ d. pos 3 *ℤ d) same)

pub returns : goal.returns
returns c = map_end (λ d. pos 3 *ℤ d) c.args.a.now c.loop-i.into c.loop-i.i (omega arith) (omega arith) c.loop-i.invariant
